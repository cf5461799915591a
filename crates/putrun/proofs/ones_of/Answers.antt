-- `putrun::ones_of`: the word's low bytes.
use mathlib.Core.Path.{ap}
use Prim.Native.Nat.{ℕ, ◌%◌}
use native.Mathlib.Omega.{arith}
use Rattle.putrun.specs.Few.{ones_of, ones-whole}
use Rattle.putrun.proofs.ones_of.Goals as goal

pub returns : goal.returns
unfolding ones_of
returns c = ap (λ (x : ℕ). 72340172838076673 % x) (ones-whole c.args.ones (omega arith))
