-- `samples::fetch_grey`: one row more, and all of them.
use Rattle.std.proofs.Common.{◌≡◌, ◌+◌, ◌*◌, ◌-◌, ◌<◌, min, refl, sym, arith}
use Rattle.base.specs.Cells.{laid_none, row_small}
use Rattle.std.proofs.Math.Nat.{suc-mul}
use Rattle.samples.specs.Laws.{grey-turn}
use Rattle.samples.specs.Rows.{grey_laid}
use Rattle.samples.proofs.fetch_grey.Goals as goal

pub loop-y-init : goal.loop-y-init
loop-y-init c = let z : 0 * c.args.g.size ≡ 0 = omega arith in rw z (sym (laid_none _ _ _))

pub loop-y-preserved : goal.loop-y-preserved
loop-y-preserved c = let l = c.loop-y in
    let s = c.args in
    let p = c.requires.size_bound in
    let b = min (s.g.y0 + l.y) (s.g.yh - 1) * s.g.yw in
    let h : l.y < s.g.size = omega arith in
    let z : (l.y + 1) * s.g.size ≡ l.y * s.g.size + s.g.size = omega (arith, suc-mul l.y s.g.size) in
    let n = row_small l.y s.g.size h p.0 in
    rw z
    (grey-turn s.luma.now s.g l.y b (l.y * s.g.size) s.out.now l.out _ p.1 p.2 refl refl l.invariant
    (grey_laid s.luma.now c.row.result.now l.out c.row_grey.new.cells b s.g.yw s.g.x0 (l.y * s.g.size) s.g.size p.1 c.row.ensures.0 c.row.ensures.1 (omega arith) c.row_grey.ensures))

pub returns : goal.returns
returns c = let e : c.loop-y.y ≡ c.args.g.size = omega arith in rw e at c.loop-y.invariant
