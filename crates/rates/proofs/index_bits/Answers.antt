use mathlib.Core.Path.{◌∙◌}
use native.Mathlib.Omega.{arith}
use Rattle.h265.specs.StringLaws.{flog-high}
use Rattle.bins.specs.Logarithm.{flog-most}
use Rattle.rates.specs.RateLaws.{index_short, index-long}
use Rattle.rates.proofs.index_bits.Goals as goal

pub overflow_add-k : goal.overflow_add-k
overflow_add-k c = omega (arith, c.flog-k.ensures, flog-most c.args.alphabet 11 (omega arith) (omega arith))

pub pow2-requires : goal.pow2-requires
pow2-requires c = omega (arith, c.flog-k.ensures, flog-most c.args.alphabet 11 (omega arith) (omega arith))

pub overflow_sub-pow2 : goal.overflow_sub-pow2
overflow_sub-pow2 c = omega (arith, rw c.flog-k.ensures at c.pow2.ensures, flog-high c.args.alphabet (omega arith))

pub number-requires : goal.number-requires
number-requires c = omega (arith, c.flog-k.ensures, flog-most c.args.alphabet 11 (omega arith) (omega arith))

pub returns-then-sent-pow2 : goal.returns-then-sent-pow2
returns-then-sent-pow2 c = c.number.ensures ∙ rw c.flog-k.ensures (index_short c.args.alphabet c.args.sent (omega (arith, rw c.flog-k.ensures at c.pow2.ensures, c.if-sent-pow2.true)))

pub overflow_add-k-else-sent-pow2 : goal.overflow_add-k-else-sent-pow2
overflow_add-k-else-sent-pow2 c = omega (arith, c.flog-k.ensures, flog-most c.args.alphabet 11 (omega arith) (omega arith))

pub number-requires-else-sent-pow2 : goal.number-requires-else-sent-pow2
number-requires-else-sent-pow2 c = omega (arith, c.flog-k.ensures, flog-most c.args.alphabet 11 (omega arith) (omega arith))

pub returns-else-sent-pow2 : goal.returns-else-sent-pow2
returns-else-sent-pow2 c = c.number-else-sent-pow2.ensures ∙ rw c.flog-k.ensures (index-long c.args.alphabet c.args.sent (omega (arith, rw c.flog-k.ensures at c.pow2.ensures, c.if-sent-pow2.false)))
