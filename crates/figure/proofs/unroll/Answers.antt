-- `figure::unroll`: one row more, and all of them.
use Rattle.std.proofs.Common.{◌≡◌, ◌+◌, ◌*◌, ◌<◌, refl, sym, arith}
use Rattle.std.proofs.Math.Nat.{suc-mul}
use Rattle.base.specs.Cells.{laid_none, laid-row, row_small}
use Rattle.samples.specs.Rows.{row_laid}
use Rattle.figure.specs.Figure.{scan_sample}
use Rattle.figure.specs.Laws.{in_rows}
use Rattle.figure.proofs.unroll.Goals as goal

pub loop-row-init : goal.loop-row-init
loop-row-init c = let z : 0 * c.args.size ≡ 0 = omega arith in rw z (sym (laid_none _ _ _))

pub loop-row-preserved : goal.loop-row-preserved
loop-row-preserved c = let l = c.loop-row in
    let s = c.args in
    let a = l.row * s.size in
    let f = scan_sample s.transpose s.size (in_rows s.size s.cells.now) in
    let h : l.row < s.size = omega arith in
    let n = row_small l.row s.size h c.requires in
    let z : (l.row + 1) * s.size ≡ a + s.size = omega (arith, suc-mul l.row s.size) in
    rw z (laid-row f s.out.now l.out _ a s.size l.invariant (row_laid (λ x. f (a + x)) f l.out c.unroll_row.new.out a s.size (omega arith) (λ j. refl) c.unroll_row.ensures))
