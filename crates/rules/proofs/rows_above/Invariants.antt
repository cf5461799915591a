-- `rules::rows_above`: the rows up to here are those above.
use Rattle.std.proofs.Common.{◌≡◌, ◌*◌, length}
use Rattle.rules.specs.Turns.{Above}
use Rattle.rules.proofs.rows_above.Given as goal

abbrev pub invariant-loop-r : goal.invariant-loop-r
invariant-loop-r l = (length l.up ≡ 1028) × Above l.size l.cells l.up (l.r * l.size)
