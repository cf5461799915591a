use mathlib.Core.Path.{◌∙◌}
use Prim.Native.Nat.{◌/◌, ◌<◌}
use native.Mathlib.Omega.{arith}
use Rattle.paths.specs.CellLaws.{above_le}
use Rattle.relax.specs.Table.{table_of, infinity_is}
use Rattle.sweep.specs.Prices.{step-yes, step_no}
use Rattle.sweep.proofs.step.Goals as goal

pub above_run-requires : goal.above_run-requires
above_run-requires c =
    let t = c.args.task.now in
    let h : c.args.s / 2 < t.terms.n = omega arith in
    (h, t.few, rw (t.measured.al_is (c.args.s / 2) (omega arith)) (above_le t.terms.size t.terms.n t.xs.now (c.args.s / 2) (omega arith)))

pub returns-then-c : goal.returns-then-c
returns-then-c c =
    let g = c.args in
    let t = g.task.now in
    c.above_run.ensures t.xs.now (t.measured.al_is (g.s / 2) (omega arith))
    ∙ rw c.index_run.ensures (step-yes _ _ _ _ _ g.s (table_of g.paths.now) (rw infinity_is at c.if-c.true))

pub returns-else-c : goal.returns-else-c
returns-else-c c = let g = c.args in step_no _ _ _ _ _ g.s (table_of g.paths.now) (rw infinity_is at c.if-c.false)
