use mathlib.Core.Path.{refl}
use Rattle.sums.specs.SumLaws.{rows-sums}
use Rattle.sums.proofs.run_sums.Goals as goal

pub returns : goal.returns
returns c =
    rw (c.fill_row-4.ensures.0, c.fill_row-4.ensures.1, c.fill_row-3.ensures.0, c.fill_row-3.ensures.1, c.fill_row-2.ensures.0, c.fill_row-2.ensures.1, c.fill_row.ensures.0, c.fill_row.ensures.1)
    (rows-sums _ _ _ refl refl)
