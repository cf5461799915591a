-- `flatrecon::paint`: the entry of one cell more.
use Rattle.std.proofs.Common.{◌≡◌, ℕ, ◌+◌, ◌-◌, ◌≤◌, get_or, arith}
use Rattle.base.specs.Cells.{laid-empty}
use Rattle.flat.specs.Flat.{number}
use Rattle.flatrecon.proofs.Laying.{laid_at}
use Rattle.flatrecon.proofs.paint.Goals as goal

pub loop-j-init : goal.loop-j-init
loop-j-init c = laid-empty _ _ _ c.args.i

pub bounds-palette-from : goal.bounds-palette-from
bounds-palette-from c =
    let e : c.args.i + (c.loop-j.j - c.args.i) ≡ c.loop-j.j = omega arith in
    let h : number c.args.list.now (336 + c.loop-j.j) ≤ 63 = rw e at (c.requires.4 (c.loop-j.j - c.args.i) (omega arith)) in
    omega arith

pub loop-j-preserved : goal.loop-j-preserved
loop-j-preserved c =
    let l = c.loop-j in
    let s = c.args in
    laid_at (λ (j : ℕ). get_or s.palette.now (number s.list.now (336 + j)) 0) s.out.now l.out s.i l.j _ (omega arith) l.invariant (rw c.from.ensures)
