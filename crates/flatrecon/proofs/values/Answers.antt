-- `flatrecon::values`: one stretch more.
use Rattle.std.proofs.Common.{◌≡◌, ◌+◌, ◌*◌, min, sym, arith}
use Rattle.base.specs.Cells.{laid_none, laid-row, laid_done}
use Rattle.flatrecon.specs.Cells.{value_of, indexed-part}
use Rattle.flatrecon.proofs.values.Goals as goal

pub loop-g-init : goal.loop-g-init
loop-g-init c = laid_done _ _ _ 0 0 _ (sym (laid_none _ _ _)) (omega arith)

pub stretch-requires : goal.stretch-requires
stretch-requires c =
    let s = c.args in
    (c.requires.0, c.requires.1, c.requires.2, omega arith, omega (arith, c.min-n.ensures), omega (arith, c.min-n.ensures), c.requires.5, indexed-part s.list.now s.m s.p _ _ c.requires.6 (omega (arith, c.min-n.ensures)))

pub loop-g-preserved : goal.loop-g-preserved
loop-g-preserved c =
    let l = c.loop-g in
    let s = c.args in
    let a : min (16 * l.g) s.m ≡ 16 * l.g = omega arith in
    let z : 16 * l.g + c.min-n.result ≡ min (16 * (l.g + 1)) s.m = omega (arith, c.min-n.ensures) in
    let f = value_of s.s s.palette.now s.list.now s.p in
    laid_done f s.out.now _ 0 _ _ (laid-row f s.out.now l.out _ (16 * l.g) c.min-n.result (rw a at l.invariant) c.stretch.ensures) z
