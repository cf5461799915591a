-- `ColorIndex::stamps_hold`: the stamps passed hold, and what is left makes the whole. Assumes nothing.
use Rattle.std.proofs.Common.{◌≡◌, false, drop}
use Rattle.base.specs.Pick.{pick}
use Rattle.colors.specs.Table.{none_above}
use Rattle.colors.proofs.ColorIndex.stamps_hold.Given as goal

abbrev pub invariant-loop-stamp : goal.invariant-loop-stamp
invariant-loop-stamp l = pick l.ok (none_above l.self.generation (drop l.stamp-index l.self.stamp)) false ≡ none_above l.self.generation l.self.stamp
