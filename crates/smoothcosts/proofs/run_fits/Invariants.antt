-- `smoothcosts::run_fits`. The loop's invariant: the samples passed fit.
use Rattle.std.proofs.Common.{◌≡◌, ℕ, ◌+◌, true}
use Rattle.base.specs.Tests.{up_to}
use Rattle.smooth.specs.Smooth.{fits}
use Rattle.smoothcosts.proofs.run_fits.Given as goal

abbrev pub invariant-loop-cell : goal.invariant-loop-cell
invariant-loop-cell l = up_to l.cell-index (λ (j : ℕ). fits l.s.cells.now l.s.tolerance l.entry (l.start + j)) ≡ true
