-- `figure::unroll_row`: the places passed are laid.
use Rattle.std.proofs.Common.{◌≡◌, ◌+◌, ◌*◌}
use Rattle.base.specs.Cells.{laid}
use Rattle.figure.specs.Figure.{scan_sample}
use Rattle.figure.specs.Laws.{in_rows}
use Rattle.figure.proofs.unroll_row.Given as goal

abbrev pub invariant-loop-x : goal.invariant-loop-x
invariant-loop-x l = l.out ≡ laid (λ x. scan_sample l.transpose l.size (in_rows l.size l.cells) (l.row * l.size + x)) l.fn.out 0 l.x
