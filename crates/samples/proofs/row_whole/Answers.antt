-- `samples::row_whole`: one column more, and all of them.
use Rattle.std.proofs.Common.{◌≡◌, ◌+◌, ◌-◌, length, sym, ◌∙◌, arith}
use Rattle.base.specs.Cells.{laid_none, laid_done, laid_on_lem}
use Rattle.samples.specs.Laws.{color_cell, whole-at}
use Rattle.samples.proofs.row_whole.Goals as goal

pub loop-c-init : goal.loop-c-init
loop-c-init c = sym (laid_none _ _ _)

pub loop-c-preserved : goal.loop-c-preserved
loop-c-preserved c = let s = c.args in
    let l = c.loop-c in
    let e : l.c - 0 ≡ l.c = omega arith in
    let z : 0 + s.x0 ≡ s.x0 = omega arith in
    laid_on_lem (color_cell s.luma.now s.cb.now s.cr.now 0 (length s.luma.now) 0 (length s.cb.now) s.x0 1 0) s.cells.now l.cells l.c c.pack.result l.invariant
    (rw e (c.pack.ensures ∙ rw z at (whole-at s.luma.now s.cb.now s.cr.now 0 (length s.luma.now) 0 (length s.cb.now) s.x0 (length s.cells.now) l.c (omega arith) (omega arith) (omega arith))))

pub returns : goal.returns
returns c = laid_done _ _ _ _ _ _ c.loop-c.invariant (omega arith)
