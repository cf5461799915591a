-- `putcount::put_four`: the ones and the zero as one number.
use mathlib.Core.Path.{◌≡◌}
use native.Mathlib.Omega.{arith}
use lib.Pow.{pow_pos}
use Rattle.base.specs.Powers.{pow_next}
use Rattle.h265.proofs.RiceLaws.{four-few, four-all}
use Rattle.putcount.proofs.put_four.Goals as goal

pub overflow_sub-pow2 : goal.overflow_sub-pow2
overflow_sub-pow2 c = omega (arith, c.pow2.ensures, pow_next c.args.ones, pow_pos c.args.ones)

pub returns-then-ones-lt4 : goal.returns-then-ones-lt4
returns-then-ones-lt4 c = rw (four-few c.args.ones c.if-ones-lt4.true, ← c.pow2.ensures) c.put_bits.ensures

pub returns : goal.returns
returns c = let e : c.args.ones ≡ 4 = omega arith in
    rw (e, four-all) c.put_bits-2.ensures
