-- `flatplan::run_at`: one number after the other.
use Rattle.flatplan.specs.Flat.{run_at}
use Rattle.flatplan.proofs.run_at.Goals as goal

pub returns : goal.returns
unfolding run_at
returns c = rw (c.number.ensures, c.number-2.ensures, c.number-3.ensures, c.number-4.ensures)
