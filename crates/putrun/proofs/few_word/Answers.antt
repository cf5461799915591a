-- `putrun::few_word`: classes and bits of the definition's.
use Rattle.putrun.specs.Few.{few_bits, few_run}
use native.Mathlib.Omega.{arith}
use Rattle.putrun.proofs.few_word.Goals as goal

pub returns : goal.returns
unfolding few_bits
returns c = λ longest h. rw (c.few_classes.ensures.0, c.spread_seven.ensures.0) (few_run longest c.args.above c.args.sent c.args.more (omega arith) h)
