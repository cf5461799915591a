-- `reps::is_within`: one component decides, or the last does. Assumes nothing.
use Rattle.std.proofs.Common.{sym, ◌∙◌}
use Rattle.base.specs.Pick.{true_false}
use Rattle.reps.specs.Laws.{within_all, within_not_y, within_not_u}
use Rattle.reps.proofs.is_within.Goals as goal
use Rattle.reps.proofs.is_within.Goals.{then-close, else-close}

pub returns-then-close-2 : goal.returns-then-close-2
returns-then-close-2 c = let s = c.args in
    elim c.if-close.branch [
      | then-close w ↦ c.close-then-close-2.ensures ∙ within_all s.tol s.a s.b (sym c.close.ensures ∙ w.if-close.true) (sym w.close-then-close.ensures ∙ sym w.value-is ∙ c.if-close-2.true)
      | else-close w ↦ absurd (true_false (sym c.if-close-2.true ∙ w.value-is ∙ w.if-close.false))
    ]

pub returns-else-close-2 : goal.returns-else-close-2
returns-else-close-2 c = let s = c.args in
    c.if-close-2.false ∙ elim c.if-close.branch [
      | then-close w ↦ within_not_u s.tol s.a s.b (sym w.close-then-close.ensures ∙ sym w.value-is ∙ c.if-close-2.false)
      | else-close w ↦ within_not_y s.tol s.a s.b (sym c.close.ensures ∙ w.if-close.false)
    ]
