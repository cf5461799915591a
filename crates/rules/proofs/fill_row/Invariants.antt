-- `rules::fill_row`: the cells up to here are those above.
use Rattle.std.proofs.Common.{◌≡◌, ◌+◌, ◌*◌, length}
use Rattle.rules.specs.Turns.{Above}
use Rattle.rules.proofs.fill_row.Given as goal

abbrev pub invariant-loop-j : goal.invariant-loop-j
invariant-loop-j l = (length l.up ≡ 1028) × Above l.size l.cells l.up (l.r * l.size + l.j)
