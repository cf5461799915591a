use mathlib.Core.List.{[], ◌∷◌}
use lib.Ieee.{le}
use Rattle.base.specs.Tests.{ands-every}
use Rattle.base.specs.Upto.{literal_0, literal_64, number}
use Rattle.rates.specs.Rates.{rate_in}
use Rattle.rates.proofs.rate_in.Goals as goal

pub returns : goal.returns
unfolding rate_in
returns c = rw (literal_0, literal_64) (ands-every (le (number 0) c.args.r) (le c.args.r (number 64) ∷ []))
