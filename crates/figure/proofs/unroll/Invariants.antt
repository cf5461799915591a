-- `figure::unroll`: the rows passed are laid.
use Rattle.std.proofs.Common.{◌≡◌, ◌*◌}
use Rattle.base.specs.Cells.{laid}
use Rattle.figure.specs.Figure.{scan_sample}
use Rattle.figure.specs.Laws.{in_rows}
use Rattle.figure.proofs.unroll.Given as goal

abbrev pub invariant-loop-row : goal.invariant-loop-row
invariant-loop-row l = l.out ≡ laid (scan_sample l.transpose l.size (in_rows l.size l.cells)) l.fn.out 0 (l.row * l.size)
