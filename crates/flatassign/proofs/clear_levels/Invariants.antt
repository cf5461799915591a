-- `flatassign::clear_levels`: the cells passed have no levels.
use Rattle.std.proofs.Common.{◌≡◌}
use Rattle.flat.specs.Flat.{block_of}
use Rattle.flatassign.specs.Places.{with_levels}
use Rattle.flatassign.specs.Filling.{cleared}
use Rattle.flatassign.proofs.clear_levels.Given as goal

abbrev pub invariant-loop-i : goal.invariant-loop-i
invariant-loop-i l = l.list ≡ with_levels l.initial.list (cleared l.i (block_of l.initial.list).escapes)
