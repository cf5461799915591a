use Prim.Native.Nat.{◌+◌, ◌/◌}
use native.Mathlib.Omega.{arith}
use lib.Pow.{pow_mono}
use Rattle.base.specs.Upto.{literal_1}
use Rattle.rates.specs.Rates.{share_rate}
use Rattle.rates.proofs.share_bits.Goals as goal

pub number-requires : goal.number-requires
number-requires c = omega (arith, c.pow2.ensures, pow_mono {i = 3 + (c.args.most + 1) / 8} {j = 24} (omega arith))

pub returns : goal.returns
unfolding share_rate
returns c = rw (literal_1, c.number.ensures, c.pow2.ensures)
