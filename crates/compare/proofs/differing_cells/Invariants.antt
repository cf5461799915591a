-- `compare::differing_cells`: the cells passed are counted.
use Rattle.std.proofs.Common.{◌≡◌, ℕ, ◌≤◌}
use Rattle.base.specs.Pick.{pick}
use Rattle.base.specs.Sums.{sum_to}
use Rattle.compare.specs.Compare.{same_cell}
use Rattle.compare.proofs.differing_cells.Given as goal

abbrev pub invariant-loop-i : goal.invariant-loop-i
invariant-loop-i l = (l.sum ≤ l.i) × (l.sum ≡ sum_to l.i (λ (j : ℕ). pick (same_cell l.a l.b l.size l.format l.turned j) 0 1))
