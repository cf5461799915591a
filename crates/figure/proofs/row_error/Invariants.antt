-- `figure::row_error`: the errors of the places passed are summed.
use Rattle.std.proofs.Common.{◌≡◌, ◌*◌, ◌≤◌, length}
use Rattle.base.specs.Sums.{sum_to}
use Rattle.figure.specs.Laws.{row_error}
use Rattle.figure.proofs.row_error.Given as goal

abbrev pub invariant-loop-x : goal.invariant-loop-x
invariant-loop-x l = record {
  small : l.sum ≤ l.x * 12884508675;
  is : l.sum ≡ sum_to l.x (row_error l.values l.cells (length l.values) l.row 0 l.chroma l.cx);
}
