-- `samples::row_pairs`: two columns more, and all of them.
use Rattle.std.proofs.Common.{◌≡◌, ◌+◌, ◌*◌, ◌/◌, length, sym, ◌∙◌, arith}
use Rattle.base.specs.Cells.{laid_none, laid_done}
use Rattle.samples.specs.Laws.{color_cell, color_at_lem, pairs_at, laid-two}
use Rattle.samples.proofs.row_pairs.Goals as goal

pub loop-c-init : goal.loop-c-init
loop-c-init c = sym (laid_none _ _ _)

pub loop-c-preserved : goal.loop-c-preserved
loop-c-preserved c = let s = c.args in
    let p = c.requires.bounds in
    let l = c.loop-c in
    let w = length s.luma.now in
    let v = length s.cb.now in
    let f = color_cell s.luma.now s.cb.now s.cr.now 0 w 0 v s.x0 2 0 in
    let z : 0 + 2 * l.c ≡ 2 * l.c = omega arith in
    let o : 0 + s.x0 / 2 ≡ s.x0 / 2 = omega arith in
    let a = rw o at (pairs_at s.luma.now s.cb.now s.cr.now 0 w 0 v s.x0 (length s.cells.now) l.c 0 (s.x0 + 2 * l.c) p.0 p.1 c.requires.even.0 c.requires.even.1 (omega arith) (omega arith) (omega arith)) in
    let b = rw o at (pairs_at s.luma.now s.cb.now s.cr.now 0 w 0 v s.x0 (length s.cells.now) l.c 1 (s.x0 + 2 * l.c + 1) p.0 p.1 c.requires.even.0 c.requires.even.1 (omega arith) (omega arith) (omega arith)) in
    rw z at
    (laid-two f s.cells.now l.cells 0 l.c c.pack.result c.pack-in-loop-c.result l.invariant
    (c.pack.ensures ∙ a ∙ color_at_lem s.luma.now s.cb.now s.cr.now 0 w 0 v s.x0 2 0 (2 * l.c + 0))
    (c.pack-in-loop-c.ensures ∙ b ∙ color_at_lem s.luma.now s.cb.now s.cr.now 0 w 0 v s.x0 2 0 (2 * l.c + 1)))

pub returns : goal.returns
returns c = laid_done _ _ _ _ _ _ c.loop-c.invariant (omega (arith, c.requires.even.1))
