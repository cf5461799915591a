-- `putrun::few_longest`: a digit of the definition's number.
use mathlib.Core.Path.{refl}
use Rattle.putrun.specs.Few.{few_longest}
use Rattle.putrun.proofs.few_longest.Goals as goal

pub returns : goal.returns
unfolding few_longest
returns c = refl
