-- `layflat::head`: number by number.
use Rattle.flat.specs.Flat.{head_of}
use Rattle.layflat.proofs.head.Goals as goal

pub returns : goal.returns
unfolding head_of
returns c = cc
