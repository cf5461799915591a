-- `samples::row_grey`: the columns passed are laid.
use Rattle.std.proofs.Common.{◌≡◌, length}
use Rattle.base.specs.Cells.{laid}
use Rattle.samples.specs.Laws.{grey_cell}
use Rattle.samples.proofs.row_grey.Given as goal

abbrev pub invariant-loop-c : goal.invariant-loop-c
invariant-loop-c l = l.cells ≡ laid (grey_cell l.luma 0 (length l.luma) l.x0 0) l.fn.cells 0 (l.c)
