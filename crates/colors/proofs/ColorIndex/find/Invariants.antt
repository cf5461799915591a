-- `ColorIndex::find`: the probes from d on end where those from 0 on do. Assumes nothing.
use Rattle.std.proofs.Common.{◌≡◌, ◌-◌}
use Rattle.colors.specs.Table.{slot_at, probe, slot_of}
use Rattle.colors.proofs.ColorIndex.find.Given as goal

abbrev pub invariant-loop-d : goal.invariant-loop-d
invariant-loop-d l = slot_at l.key (probe (256 - l.d) l.self.keys l.self.stamp l.self.generation l.key l.d) ≡ slot_of l.self.keys l.self.stamp l.self.generation l.key
