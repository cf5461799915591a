-- `smoothcosts::run_above_cost`. The loop's invariant: the sum over the places passed.
use Rattle.std.proofs.Common.{◌≡◌, ℕ, ◌-◌, get_or}
use Rattle.h265.specs.Scan.{above_at}
use Rattle.smooth.specs.Smooth.{sum_from, delta}
use Rattle.smoothcosts.proofs.run_above_cost.Given as goal

abbrev pub invariant-loop-i : goal.invariant-loop-i
invariant-loop-i l =
    l.sum ≡ sum_from (λ (i : ℕ). delta l.s.format l.s.size l.s.cells.now l.from (get_or l.s.palette.now (above_at l.s.size l.indices i) 0) i) l.start (l.i - l.start)
