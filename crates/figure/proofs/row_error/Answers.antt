-- `figure::row_error`: one place more.
use Rattle.std.proofs.Common.{◌≡◌, ◌+◌, length, sym, arith}
use Rattle.base.specs.Sums.{sum_to-none, sum_to-next}
use Rattle.h265.specs.Scan.{along}
use Rattle.figure.specs.Laws.{row_error}
use Rattle.figure.proofs.row_error.Goals as goal

pub loop-x-init : goal.loop-x-init
loop-x-init c = record { small = omega arith; is = sym (sum_to-none _) }

pub loop-x-preserved : goal.loop-x-preserved
loop-x-preserved c = let l = c.loop-x in
    let s = c.args in
    let e = c.cell_error-sum in
    let n = length s.values.now in
    let o : 0 + l.x ≡ l.x = omega arith in
    let p : 0 + along n s.row l.x ≡ along n s.row l.x = omega arith in
    record {
      small = omega (arith, e.ensures.1);
      is = rw (l.invariant.is, e.ensures.0, c.multiple.ensures, c.column-col.ensures.0) (sym (rw (o, p) at (sum_to-next (row_error s.values.now s.cells.now n s.row 0 s.chroma s.cx) l.x)));
    }
