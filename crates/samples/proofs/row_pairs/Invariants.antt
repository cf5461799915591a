-- `samples::row_pairs`: the columns passed are laid, two at a turn.
use Rattle.std.proofs.Common.{◌≡◌, ◌*◌, length}
use Rattle.base.specs.Cells.{laid}
use Rattle.samples.specs.Laws.{color_cell}
use Rattle.samples.proofs.row_pairs.Given as goal

abbrev pub invariant-loop-c : goal.invariant-loop-c
invariant-loop-c l = l.cells ≡ laid (color_cell l.luma l.cb l.cr 0 (length l.luma) 0 (length l.cb) l.x0 2 0) l.fn.cells 0 (2 * l.c)
