-- `put::shorts`: between 0 and the alphabet's size.
use mathlib.Core.Path.{ap}
use Prim.Native.Nat.{ℕ, ◌-◌}
use native.Mathlib.Omega.{arith}
use Rattle.base.specs.Powers.{pow_next}
use Rattle.h265.specs.Strings.{flog}
use Rattle.h265.specs.StringLaws.{flog-low, flog-high}
use Rattle.bins.specs.Logarithm.{flog-most}
use Rattle.put.proofs.shorts.Goals as goal

pub overflow_add-k : goal.overflow_add-k
overflow_add-k c = omega (arith, c.requires.2, flog-most c.args.n 17 (omega arith) (omega arith))

pub pow2-requires : goal.pow2-requires
pow2-requires c = omega (arith, c.requires.2, flog-most c.args.n 17 (omega arith) (omega arith))

pub overflow_sub-result : goal.overflow_sub-result
overflow_sub-result c = omega (arith, rw c.requires.2 at c.pow2.ensures, flog-high c.args.n (omega arith))

pub returns : goal.returns
returns c = let p = rw c.requires.2 at c.pow2.ensures in (
  ap (λ (x : ℕ). x - c.args.n) p,
  omega (arith, p, flog-low c.args.n (omega arith), pow_next (flog c.args.n)),
  omega (arith, c.requires.2, flog-most c.args.n 17 (omega arith) (omega arith)),
)
