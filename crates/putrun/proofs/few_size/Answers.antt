-- `putrun::few_size`: a digit of the definition's number.
use mathlib.Core.Path.{refl}
use native.Mathlib.Omega.{arith}
use Rattle.putrun.specs.Few.{few_size, few-most}
use Rattle.putrun.proofs.few_size.Goals as goal

pub returns : goal.returns
unfolding few_size
returns c = (refl, few-most c.args.more (omega arith))
