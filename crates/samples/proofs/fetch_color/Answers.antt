-- `samples::fetch_color`: one row more, and all of them.
use Rattle.std.proofs.Common.{◌≡◌, ◌+◌, ◌*◌, ◌-◌, ◌<◌, min, refl, sym, arith}
use Rattle.base.specs.Cells.{laid_none, row_small}
use Rattle.std.proofs.Math.Nat.{suc-mul}
use Rattle.samples.specs.Laws.{color_turn}
use Rattle.samples.specs.Rows.{color_laid}
use Rattle.samples.proofs.fetch_color.Goals as goal

pub loop-y-init : goal.loop-y-init
loop-y-init c = let z : 0 * c.args.g.size ≡ 0 = omega arith in rw z (sym (laid_none _ _ _))

pub loop-y-preserved : goal.loop-y-preserved
loop-y-preserved c = let l = c.loop-y in
    let s = c.args in
    let p = c.requires.size_bound in
    let q = c.requires.le_format in
    let b = min (s.g.y0 + l.y) (s.g.yh - 1) * s.g.yw in
    let d = min c.down-d.result (s.g.chh - 1) * s.g.cw in
    let h : l.y < s.g.size = omega arith in
    let z : (l.y + 1) * s.g.size ≡ l.y * s.g.size + s.g.size = omega (arith, suc-mul l.y s.g.size) in
    let n = row_small l.y s.g.size h p.0 in
    rw z
    (color_turn s.luma.now s.cb.now s.cr.now s.format s.g l.y b d c.sub_w-across.result (l.y * s.g.size) s.out.now l.out _ p.1 p.2 q.0 q.1 q.2 refl refl (rw (c.down-d.ensures, c.sub_h-along.ensures.0)) c.sub_w-across.ensures.0 l.invariant
    (color_laid s.luma.now s.cb.now s.cr.now c.row-y_row.result.now c.row-cb_row.result.now c.row-cr_row.result.now l.out c.row_color.new.cells b s.g.yw d s.g.cw s.g.x0 c.sub_w-across.result (l.y * s.g.size) s.g.size p.1 q.1 c.row-y_row.ensures.0 c.row-y_row.ensures.1 c.row-cb_row.ensures.0 c.row-cb_row.ensures.1 c.row-cr_row.ensures.0 c.row-cr_row.ensures.1 (omega arith) c.row_color.ensures))

pub returns : goal.returns
returns c = let e : c.loop-y.y ≡ c.args.g.size = omega arith in rw e at c.loop-y.invariant
