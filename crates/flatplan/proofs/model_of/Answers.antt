-- `flatplan::model_of`: the run type's rates and the prefix's.
use Rattle.flatplan.specs.Flat.{model_of}
use Rattle.flatplan.proofs.model_of.Goals as goal

pub returns : goal.returns
unfolding model_of
returns c = rw (c.pair_at.ensures, c.prefix_of.ensures)
