-- `samples::fetch_color`: the rows passed are laid.
use Rattle.std.proofs.Common.{◌≡◌, ◌*◌}
use Rattle.base.specs.Cells.{laid}
use Rattle.samples.specs.Samples.{cell_at}
use Rattle.samples.proofs.fetch_color.Given as goal

abbrev pub invariant-loop-y : goal.invariant-loop-y
invariant-loop-y l = l.out ≡ laid (cell_at l.luma l.cb l.cr l.format l.g) l.fn.out 0 (l.y * l.g.size)
