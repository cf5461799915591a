-- `compare::differing`: the places passed are counted.
use Rattle.std.proofs.Common.{ℕ, ◌+◌, sym, arith}
use Rattle.base.specs.Sums.{sum_to-none, sum_to-next}
use Rattle.flat.specs.Flat.{number}
use Rattle.compare.specs.Compare.{unlike}
use Rattle.compare.proofs.differing.Goals as goal

pub loop-i-init : goal.loop-i-init
loop-i-init c = (omega arith, sym (sum_to-none _))

pub loop-i-preserved : goal.loop-i-preserved
loop-i-preserved c =
    let l = c.loop-i in
    let s = c.args in
    (omega (arith, c.unlike-sum.ensures.1), rw (l.invariant.1, c.unlike-sum.ensures.0, c.number.ensures, c.number-in-loop-i.ensures) (sym (sum_to-next (λ (j : ℕ). unlike (number s.a.now (s.p + j)) (number s.b.now (s.p + j))) l.i)))
