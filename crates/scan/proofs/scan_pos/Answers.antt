-- `scan::scan_pos`: the row's number, and the place in the row, turned in odd rows.
use mathlib.Core.Path.{refl}
use Rattle.h265.specs.Scan.{col_of, row_of}
use Rattle.scan.proofs.scan_pos.Goals as goal

pub returns : goal.returns
unfolding col_of row_of
returns c = (c.along.ensures.0, refl)
