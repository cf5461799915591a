-- `compare::differing_samples`: the rows passed are counted, and `at` is where the next one starts.
use Rattle.std.proofs.Common.{◌≡◌, ℕ, ◌+◌, ◌*◌, ◌≤◌}
use Rattle.base.specs.Sums.{sum_to}
use Rattle.compare.specs.Compare.{differing, clipped}
use Rattle.compare.proofs.differing_samples.Given as goal

abbrev pub invariant-loop-row : goal.invariant-loop-row
invariant-loop-row l = (l.sum ≤ l.row * 65535) × (l.at ≤ 4294967296 + l.row * 65535) × (l.at ≡ l.y * l.w + l.x + l.row * l.w) × (l.sum ≡ sum_to l.row (λ (r : ℕ). differing l.a l.b (l.y * l.w + l.x + r * l.w) (clipped l.w l.x l.size)))
