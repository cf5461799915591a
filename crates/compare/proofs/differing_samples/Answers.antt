-- `compare::differing_samples`: the rows passed are counted, and `at` is where the next one starts.
use Rattle.std.proofs.Common.{ℕ, ◌+◌, ◌*◌, sym, arith}
use Rattle.std.proofs.Math.Nat.{suc-mul}
use Rattle.base.specs.Sums.{sum_to-none, sum_to-next}
use Rattle.compare.specs.Compare.{differing, clipped}
use Rattle.compare.proofs.differing_samples.Goals as goal

pub loop-row-init : goal.loop-row-init
loop-row-init c = (omega arith, omega (arith, c.place-at.ensures.1), omega (arith, c.place-at.ensures.0), sym (sum_to-none _))

pub loop-row-preserved : goal.loop-row-preserved
loop-row-preserved c =
    let l = c.loop-row in
    let s = c.args in (
      omega (arith, c.differing-sum.ensures.1),
      omega (arith, c.from-at.ensures),
      omega (arith, c.from-at.ensures, suc-mul l.row s.w),
      rw (l.invariant.3, c.differing-sum.ensures.0, l.invariant.2, c.clipped-cols.ensures) (sym (sum_to-next (λ (r : ℕ). differing s.a.now s.b.now (s.y * s.w + s.x + r * s.w) (clipped s.w s.x s.size)) l.row)),
    )
