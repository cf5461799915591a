use mathlib.Core.Path.{◌∙◌}
use mathlib.Core.List.{[], ◌∷◌}
use Rattle.base.specs.Tests.{ands-every}
use Rattle.rates.specs.Rates.{pair_in}
use Rattle.rates.proofs.pair_in.Goals as goal

pub returns : goal.returns
unfolding pair_in
returns c = ands-every c.rate_in.result (c.rate_in-2.result ∷ []) ∙ rw (c.rate_in.ensures, c.rate_in-2.ensures)
