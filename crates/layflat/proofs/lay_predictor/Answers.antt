-- `layflat::lay_predictor`: the size, then the entries.
use Rattle.base.specs.Laid.{laid_then}
use Rattle.flat.specs.Flat.{flat_predictor}
use Rattle.layflat.specs.Numbers.{colors_numbers}
use Rattle.layflat.proofs.lay_predictor.Goals as goal

pub returns : goal.returns
unfolding flat_predictor
returns c = (laid_then (rw c.short.ensures at c.put-entries.ensures) (rw (colors_numbers c.args.p.entries) at c.lay_all.ensures)).after
