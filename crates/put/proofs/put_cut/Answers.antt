-- `put::put_cut`: short strings and long ones.
use native.Mathlib.Omega.{arith}
use Rattle.h265.specs.StringLaws.{length-bits}
use Rattle.put.specs.Words.{tb-either}
use Rattle.put.proofs.put_cut.Goals as goal

pub returns : goal.returns
returns c = (
  (λ n e f. rw (← tb-either n c.args.v c.args.short c.args.k _ _ e f c.raised.ensures c.bits_for.ensures.0) c.put_bits.ensures),
  omega (arith, rw length-bits at c.put_bits.ensures.next, c.bits_for.ensures.1),
)
