-- `scan::scan_pos_inv`: the rows before, and the place in the row, turned in odd rows.
use Rattle.h265.specs.Scan.{scan_at}
use Rattle.scan.proofs.scan_pos_inv.Goals as goal

pub returns : goal.returns
unfolding scan_at
returns c = rw c.along.ensures.0
