-- `figure::unroll_row`: one place more.
use Rattle.std.proofs.Common.{◌+◌, ◌*◌, get_or, sym, arith}
use Rattle.base.specs.Cells.{laid_none, laid_on_lem}
use Rattle.figure.specs.Figure.{scan_sample}
use Rattle.figure.specs.Laws.{in_rows, scan_place}
use Rattle.figure.proofs.unroll_row.Goals as goal

pub loop-x-init : goal.loop-x-init
loop-x-init c = sym (laid_none _ _ _)

pub loop-x-preserved : goal.loop-x-preserved
loop-x-preserved c = let l = c.loop-x in
    let s = c.args in
    laid_on_lem (λ x. scan_sample s.transpose s.size (in_rows s.size s.cells.now) (s.row * s.size + x)) s.out.now l.out l.x (get_or s.cells.now c.place.result 0) l.invariant
    (rw (c.place.ensures.0, c.column.ensures.0) (scan_place s.transpose s.size s.cells.now s.row l.x (omega arith)))
