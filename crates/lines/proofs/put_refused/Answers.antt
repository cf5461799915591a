-- `lines::put_refused`: number and place.
use native.Mathlib.Omega.{arith}
use Rattle.base.specs.Laid.{laid_then}
use Rattle.lines.specs.Lines.{refused_line}
use Rattle.lines.proofs.put_refused.Goals as goal

pub returns : goal.returns
unfolding refused_line
returns c = let a = c.put_field-p.ensures in
    let b = c.put_field-q.ensures in
    record { laid = rw c.from.ensures at (laid_then a.laid (laid_then b.laid c.put.ensures)); near = omega (arith, a.near, b.near, c.put.ensures.next) }
