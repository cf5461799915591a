-- `samples::fetch_grey`: the rows passed are laid.
use Rattle.std.proofs.Common.{◌≡◌, ◌*◌}
use Rattle.base.specs.Cells.{laid}
use Rattle.samples.specs.Laws.{luma_cell}
use Rattle.samples.proofs.fetch_grey.Given as goal

abbrev pub invariant-loop-y : goal.invariant-loop-y
invariant-loop-y l = l.out ≡ laid (luma_cell l.luma l.g) l.fn.out 0 (l.y * l.g.size)
