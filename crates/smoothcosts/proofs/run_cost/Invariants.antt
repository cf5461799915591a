-- `smoothcosts::run_cost`. The loop's invariant: the sum over the places passed.
use Rattle.std.proofs.Common.{◌≡◌, ◌-◌}
use Rattle.smooth.specs.Smooth.{sum_from, delta}
use Rattle.smoothcosts.proofs.run_cost.Given as goal

abbrev pub invariant-loop-i : goal.invariant-loop-i
invariant-loop-i l = l.sum ≡ sum_from (delta l.s.format l.s.size l.s.cells.now l.from l.to) l.start (l.i - l.start)
