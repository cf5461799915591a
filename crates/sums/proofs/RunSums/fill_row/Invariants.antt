-- `sums::RunSums::fill_row`. The loop's invariant: what k ones cost, and the row's first k places laid.
use mathlib.Core.Path.{◌≡◌}
use Prim.Native.Nat.{◌-◌, ◌*◌}
use Rattle.base.specs.Cells.{laid}
use Rattle.sums.specs.Sums.{full_sum, short_sum}
use Rattle.sums.proofs.RunSums.fill_row.Given as goal

abbrev pub invariant-loop-k : goal.invariant-loop-k
invariant-loop-k l = (l.sum ≡ full_sum l.m l.above l.sent l.k) × (l.self.short ≡ laid (λ i. short_sum l.m l.above l.sent (i - l.row * 12)) l.initial.self.short (l.row * 12) l.k) × (l.self.full ≡ laid (λ i. full_sum l.m l.above l.sent (i - l.row * 12)) l.initial.self.full (l.row * 12) l.k)
