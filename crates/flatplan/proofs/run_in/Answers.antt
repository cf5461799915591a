-- `flatplan::run_in`: number by number.
use mathlib.Core.Path.{refl}
use Rattle.flatplan.specs.Flat.{run_at}
use Rattle.flatplan.proofs.run_in.Goals as goal

pub returns : goal.returns
unfolding run_at
returns c = refl
