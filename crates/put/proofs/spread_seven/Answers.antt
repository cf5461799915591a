-- `put::spread_seven`: the definition's product.
use mathlib.Core.Path.{refl}
use Rattle.put.specs.Words.{spread, spread-most}
use Rattle.put.proofs.spread_seven.Goals as goal

pub returns : goal.returns
unfolding spread
returns c = (refl, spread-most c.args.x)
