-- `onto::put_plane`: a block beside the plane leaves it, else its rows are put.
use Rattle.std.proofs.Common.{◌≡◌, sym, ◌∙◌, arith}
use Rattle.onto.specs.Laws.{from_cells, rows, put_none, put_next, put_all}
use Rattle.onto.proofs.put_plane.Goals as goal

pub loop-y-init : goal.loop-y-init
loop-y-init c = sym (put_none _ _ _)

pub loop-y-preserved : goal.loop-y-preserved
loop-y-preserved c =
    let s = c.args in
    c.put_row.ensures ∙ rw c.loop-y.invariant (sym (put_next s.o (from_cells s.o s.values.now) s.plane.now c.loop-y.y))

pub returns : goal.returns
returns c =
    let s = c.args in
    let e : c.loop-y.y ≡ rows s.o = omega arith in
    put_all s.o (from_cells s.o s.values.now) s.plane.now c.loop-y.plane c.loop-y.y c.loop-y.invariant e (omega arith) c.requires.0.holds
