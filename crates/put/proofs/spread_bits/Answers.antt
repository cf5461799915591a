-- `put::spread_bits`: the product's bytes are the bits.
use native.Mathlib.Omega.{arith}
use Rattle.put.specs.Words.{spread-bits}
use Rattle.put.proofs.spread_bits.Goals as goal

pub returns : goal.returns
returns c = rw (c.spread_seven.ensures.0, c.from.ensures) (spread-bits c.args.n c.args.value (omega arith) (omega arith))
