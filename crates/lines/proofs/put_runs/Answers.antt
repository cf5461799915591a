-- `lines::put_runs`.
use Rattle.std.proofs.Common.{length, le_refl, arith}
use Rattle.std.proofs.Math.Seq.{take-length}
use Rattle.base.specs.Laid.{left-start, left-turn, left_end}
use Rattle.lines.specs.LineLaws.{lines_turn, lines_end}
use Rattle.lines.proofs.put_runs.Goals as goal

pub loop-run-init : goal.loop-run-init
loop-run-init c = (omega arith, left-start _ _ _)

pub loop-run-preserved : goal.loop-run-preserved
loop-run-preserved c =
    let b = c.loop-run in
    let runs = c.args.runs.now in
    let w = rw take-length at (lines_turn runs (length runs) b.run-index (le_refl _) (omega arith)) in
    (omega (arith, c.put_run-to.ensures.near), left-turn _ c.put_run-to.ensures.laid (rw w at b.invariant.1))

pub returns : goal.returns
returns c =
    let b = c.loop-run in
    let runs = c.args.runs.now in
    let e = rw take-length at (lines_end runs (length runs) b.run-index (le_refl _) (omega arith)) in
    record { laid = left_end (rw e at b.invariant.1); near = omega arith }
