-- `compare::differing`: the places passed are counted.
use Rattle.std.proofs.Common.{◌≡◌, ℕ, ◌+◌, ◌≤◌}
use Rattle.base.specs.Sums.{sum_to}
use Rattle.flat.specs.Flat.{number}
use Rattle.compare.specs.Compare.{unlike}
use Rattle.compare.proofs.differing.Given as goal

abbrev pub invariant-loop-i : goal.invariant-loop-i
invariant-loop-i l = (l.sum ≤ l.i) × (l.sum ≡ sum_to l.i (λ (j : ℕ). unlike (number l.a (l.p + j)) (number l.b (l.p + j))))
