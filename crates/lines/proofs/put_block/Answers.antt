-- `lines::put_block`: field after field.
use native.Mathlib.Omega.{arith}
use Rattle.base.specs.Laid.{laid_then}
use Rattle.lines.specs.Lines.{block_line}
use Rattle.lines.proofs.put_block.Goals as goal

pub returns : goal.returns
unfolding block_line
returns c = let a = c.put_field-p.ensures in
    let b = c.put_field-q.ensures in
    let d = c.put_field-r.ensures in
    let e = c.put_field-s.ensures in
    let f = c.put_field-t.ensures in
    record { laid = rw (c.from.ensures, c.from-2.ensures) at (laid_then a.laid (laid_then b.laid (laid_then d.laid (laid_then e.laid (laid_then f.laid c.put.ensures))))); near = omega (arith, a.near, b.near, d.near, e.near, f.near, c.put.ensures.next) }
