-- `rules::replays_to`: the cells so far and the test of what is left are the test of the whole.
use Rattle.std.proofs.Common.{◌≡◌, ◌≤◌, false, eqb, take, drop}
use Rattle.flatplan.specs.Flat.{first_of}
use Rattle.syntax.specs.Test.{both, replays}
use Rattle.rules.proofs.replays_to.Given as goal

abbrev pub invariant-loop-i : goal.invariant-loop-i
invariant-loop-i l = (l.scan ≤ l.n) × (both (eqb l.bad 0) (replays l.size l.n l.m (take l.n (drop l.from l.fn.cells)) l.scan l.prev (drop l.i (first_of l.runs l.count))) ≡ replays l.size l.n l.m (take l.n (drop l.from l.fn.cells)) 0 false (first_of l.runs l.count))
