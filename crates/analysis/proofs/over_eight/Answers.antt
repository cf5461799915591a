-- `analysis::over_eight`: a depth is 8 to 12.
use native.Mathlib.Omega.{arith}
use Rattle.model.specs.ConfigLaws.{depth-bounds}
use Rattle.analysis.proofs.over_eight.Goals as goal

pub overflow_sub-depth : goal.overflow_sub-depth
overflow_sub-depth c = let b = depth-bounds c.args.depth c.requires in omega arith

pub returns : goal.returns
returns c = let b = depth-bounds c.args.depth c.requires in (omega arith, omega arith)
