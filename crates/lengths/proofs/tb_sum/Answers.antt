use native.Mathlib.Omega.{arith}
use borrow.Author.Tests.{lt-ltb, le-ltb}
use Rattle.base.specs.Upto.{literal_1}
use Rattle.bins.specs.Logarithm.{flog-most}
use Rattle.h265.specs.StringLaws.{flog-high}
use Rattle.sums.specs.Sums.{tb_sum}
use Rattle.lengths.proofs.tb_sum.Goals as goal

pub returns-then-n-lt2 : goal.returns-then-n-lt2
unfolding tb_sum
returns-then-n-lt2 c = rw (lt-ltb _ _ c.if-n-lt2.true)

pub number-bits-requires : goal.number-bits-requires
number-bits-requires c = omega (arith, c.flog-k.ensures, flog-most c.args.n 11 (omega arith) (omega arith))

pub overflow_add-k : goal.overflow_add-k
overflow_add-k c = omega (arith, c.flog-k.ensures, flog-most c.args.n 11 (omega arith) (omega arith))

pub pow2-requires : goal.pow2-requires
pow2-requires c = omega (arith, c.flog-k.ensures, flog-most c.args.n 11 (omega arith) (omega arith))

pub overflow_sub-pow2 : goal.overflow_sub-pow2
overflow_sub-pow2 c = omega (arith, rw c.flog-k.ensures at c.pow2.ensures, flog-high c.args.n (omega arith))

pub returns-then-v-pow2 : goal.returns-then-v-pow2
unfolding tb_sum
returns-then-v-pow2 c = rw (le-ltb _ _ c.if-n-lt2.false, ← c.flog-k.ensures, ← c.pow2.ensures, lt-ltb _ _ c.if-v-pow2.true, c.number-bits.ensures)

pub returns-else-v-pow2 : goal.returns-else-v-pow2
unfolding tb_sum
returns-else-v-pow2 c = rw (le-ltb _ _ c.if-n-lt2.false, ← c.flog-k.ensures, ← c.pow2.ensures, le-ltb _ _ c.if-v-pow2.false, c.number-bits.ensures, literal_1)
