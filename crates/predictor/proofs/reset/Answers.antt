use mathlib.Core.Path.{refl}
use Rattle.predictor.specs.Update.{padded, empty_predictor}
use Rattle.predictor.proofs.reset.Goals as goal

pub returns : goal.returns
unfolding padded empty_predictor
returns c = refl
