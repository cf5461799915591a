-- `scan::place_above`: as far before the start of the row as the cell stands after it.
use mathlib.Core.Path.{sym}
use Rattle.h265.specs.ScanLaws.{above-closed, above_before}
use Rattle.scan.proofs.place_above.Goals as goal

pub returns : goal.returns
returns c = let e = sym (above-closed c.args.size c.args.i c.requires.0 c.requires.1) in (e, rw e (above_before c.args.size c.args.i c.requires.1 c.requires.0))
