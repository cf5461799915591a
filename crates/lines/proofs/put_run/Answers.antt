-- `lines::put_run`: a line of either kind.
use native.Mathlib.Omega.{arith}
use Rattle.base.specs.Laid.{laid_then}
use Rattle.lines.specs.Lines.{run_line}
use Rattle.lines.proofs.put_run.Goals as goal

pub returns-then-run : goal.returns-then-run
unfolding run_line
returns-then-run c = let a = c.put_field-p.ensures in
    let b = c.put_field-q.ensures in
    record { laid = rw c.if-run.true (rw (c.from-start.ensures, c.from-cells.ensures) at (laid_then a.laid (laid_then b.laid c.put.ensures))); near = omega (arith, a.near, b.near, c.put.ensures.next) }

pub returns : goal.returns
unfolding run_line
returns c = let a = c.put_field-p-2.ensures in
    let b = c.put_field-q-2.ensures in
    let d = c.put_field-r.ensures in
    record { laid = rw c.if-run.false (rw (c.from-start.ensures, c.from-cells.ensures, c.from.ensures) at (laid_then a.laid (laid_then b.laid (laid_then d.laid c.put-2.ensures)))); near = omega (arith, a.near, b.near, d.near, c.put-2.ensures.next) }
