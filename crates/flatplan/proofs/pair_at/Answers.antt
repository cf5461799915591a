-- `flatplan::pair_at`: one rate after the other.
use Rattle.flatplan.specs.Flat.{pair_at}
use Rattle.flatplan.proofs.pair_at.Goals as goal

pub returns : goal.returns
unfolding pair_at
returns c = rw (c.rate_at.ensures, c.rate_at-2.ensures)
