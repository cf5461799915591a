-- `flatrecon::decode`: one cell more.
use Rattle.std.proofs.Common.{arith}
use Rattle.base.specs.Cells.{laid-empty}
use Rattle.flatrecon.specs.Cells.{value_of}
use Rattle.flatrecon.proofs.Laying.{laid_at}
use Rattle.flatrecon.proofs.decode.Goals as goal

pub loop-j-init : goal.loop-j-init
loop-j-init c = laid-empty _ _ _ c.args.i

pub loop-j-preserved : goal.loop-j-preserved
loop-j-preserved c =
    let l = c.loop-j in
    let s = c.args in
    laid_at (value_of s.s s.palette.now s.list.now s.p) s.out.now l.out s.i l.j _ (omega arith) l.invariant c.value.ensures
