-- `smoothcosts::run_above_fits`. The loop's invariant: the indices above the places passed fit.
use Rattle.std.proofs.Common.{◌≡◌, ℕ, ◌+◌, ◌-◌, true}
use Rattle.base.specs.Tests.{up_to}
use Rattle.smooth.specs.Smooth.{above_fits}
use Rattle.smoothcosts.proofs.run_above_fits.Given as goal

abbrev pub invariant-loop-i : goal.invariant-loop-i
invariant-loop-i l = up_to (l.i - l.start) (λ (j : ℕ). above_fits l.s.size l.s.escape l.s.tolerance l.s.palette.now l.s.cells.now l.indices l.value (l.start + j)) ≡ true
