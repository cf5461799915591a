-- `figure::error_figure`: one row more, and all of them.
use Rattle.std.proofs.Common.{◌≡◌, ◌&&◌, not, eqb, ◌+◌, ◌*◌, ◌<◌, refl, sym, ◌∙◌, arith}
use Rattle.std.proofs.Math.Nat.{suc-mul}
use Rattle.base.specs.Cells.{row_small}
use Rattle.base.specs.Sums.{sum_to-none}
use Rattle.figure.specs.Figure.{figure_of}
use Rattle.figure.specs.Laws.{figure_row, error_part}
use Rattle.figure.proofs.error_figure.Goals as goal

pub loop-row-init : goal.loop-row-init
loop-row-init c = let z : 0 * c.args.size ≡ 0 = omega arith in record { small = omega arith; is = rw z (sym (sum_to-none _)) }

pub loop-row-preserved : goal.loop-row-preserved
loop-row-preserved c = let l = c.loop-row in
    let s = c.args in
    let r = c.row_error-sum in
    let a = l.row * s.size in
    let chroma = not (eqb s.format 0) && c.multiple.result in
    let h : l.row < s.size = omega arith in
    let n = row_small l.row s.size h c.requires in
    let z : (l.row + 1) * s.size ≡ a + s.size = omega (arith, suc-mul l.row s.size) in
    let e = r.ensures.0 ∙ error_part s.values.now s.cells.now s.size l.row a c.grid_w-cx.result chroma (omega arith) in
    record {
      small = omega (arith, r.ensures.1);
      is = rw z (figure_row s.format s.transpose s.size s.values.now s.cells.now l.row a l.sum r.result c.grid_w-cx.result c.grid_h-ry.result chroma refl c.grid_w-cx.ensures.0 c.grid_h-ry.ensures.0 (rw c.multiple.ensures) e l.invariant.is);
    }

pub returns : goal.returns
unfolding figure_of
returns c = let e : c.loop-row.row ≡ c.args.size = omega arith in rw e at c.loop-row.invariant.is
