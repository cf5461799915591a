-- `flatready::reach`. The loop's invariant: the places passed, of each of the four stretches.
use Rattle.std.proofs.Common.{◌+◌, ◌*◌}
use Rattle.flatready.specs.Reach.{Under}
use Rattle.flatready.proofs.reach.Given as goal

abbrev pub invariant-loop-i : goal.invariant-loop-i
invariant-loop-i l = Under l.list l.from l.i l.m l.r × Under l.list (l.from + l.n) l.i l.m l.r × Under l.list (l.from + 2 * l.n) l.i l.m l.r × Under l.list (l.from + 3 * l.n) l.i l.m l.r
