-- `luma::mark`: a value met before, or a new one. Assumes nothing.
use mathlib.Core.Path.{refl, sym, ◌∙◌}
use Rattle.base.specs.Pick.{true_false}
use Rattle.luma.proofs.mark.Goals as goal

pub returns-then-seen-v : goal.returns-then-seen-v
returns-then-seen-v c = record { old = λ h. (refl, refl); new = λ h. absurd (true_false (sym c.if-seen-v.true ∙ h)) }

pub returns : goal.returns
returns c = record { old = λ h. absurd (true_false (sym h ∙ c.if-seen-v.false)); new = λ h. (refl, refl) }
