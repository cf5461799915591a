-- `measure::later_row`. The loop's invariant: the row's first j cells are laid.
use mathlib.Core.Path.{sym}
use native.Mathlib.Omega.{arith}
use Rattle.base.specs.Cells.{laid_none, laid-step, laid_done, row_small}
use Rattle.measure.specs.Steps.{above_in-row, row_first}
use Rattle.measure.proofs.later_row.Goals as goal

pub overflow_mul-start : goal.overflow_mul-start
overflow_mul-start c = omega (arith, row_small c.args.row c.args.size c.requires.1 c.requires.2)

pub loop-j-init : goal.loop-j-init
loop-j-init c = sym (laid_none _ _ _)

pub overflow_sub-above : goal.overflow_sub-above
overflow_sub-above c = omega (arith, row_small c.args.row c.args.size c.requires.1 c.requires.2, row_first c.args.row c.args.size c.requires.0)

pub overflow_sub-above-in-loop-j : goal.overflow_sub-above-in-loop-j
overflow_sub-above-in-loop-j c = omega (arith, row_small c.args.row c.args.size c.requires.1 c.requires.2, row_first c.args.row c.args.size c.requires.0)

pub bounds-xs-start : goal.bounds-xs-start
bounds-xs-start c = omega (arith, row_small c.args.row c.args.size c.requires.1 c.requires.2, row_first c.args.row c.args.size c.requires.0)

pub overflow_add-above : goal.overflow_add-above
overflow_add-above c = omega (arith, row_small c.args.row c.args.size c.requires.1 c.requires.2, row_first c.args.row c.args.size c.requires.0)

pub bounds-above-start : goal.bounds-above-start
bounds-above-start c = omega (arith, row_small c.args.row c.args.size c.requires.1 c.requires.2, row_first c.args.row c.args.size c.requires.0)

pub loop-j-preserved : goal.loop-j-preserved
loop-j-preserved c = laid-step _ _ _ _ _ _ c.loop-j.invariant (above_in-row c.args.size c.args.row c.loop-j.j _ c.requires.0 (omega arith))

pub returns : goal.returns
returns c = laid_done _ _ _ _ _ _ c.loop-j.invariant (omega arith)
