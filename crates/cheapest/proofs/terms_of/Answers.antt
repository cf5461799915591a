use native.Mathlib.Omega.{arith}
use Rattle.cheapest.proofs.terms_of.Goals as goal

pub share_bits-requires : goal.share_bits-requires
share_bits-requires c = omega (arith, c.requires)

pub returns : goal.returns
returns c = rw c.share_bits.ensures
