-- `figure::error_figure`: the errors of the rows passed are summed.
use Rattle.std.proofs.Common.{◌≡◌, ℕ, ◌*◌, ◌≤◌, get_or}
use Rattle.base.specs.Sums.{sum_to}
use Rattle.figure.specs.Figure.{error_at}
use Rattle.figure.specs.Laws.{in_rows}
use Rattle.figure.proofs.error_figure.Given as goal

abbrev pub invariant-loop-row : goal.invariant-loop-row
invariant-loop-row l = record {
  small : l.sum ≤ l.row * 412304277600;
  is : l.sum ≡ sum_to (l.row * l.size) (error_at l.format l.transpose l.size (λ (j : ℕ). get_or l.values j 0) (in_rows l.size l.cells));
}
