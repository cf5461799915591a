use Rattle.std.proofs.Common.{ne_eqb, ◌≡◌, ⊎_elim, true}
use Rattle.measure.specs.Steps.{stretch_step}
use Rattle.measure.proofs.stretch_step.Goals as goal

pub returns-then-below : goal.returns-then-below
unfolding stretch_step
returns-then-below c =
    ⊎_elim
    (λ (e : c.args.len ≡ 0). rw e)
    (λ (e : (c.args.len ≡ 0 → ⊥) × (c.args.below ≡ true)). rw (ne_eqb _ _ e.0, e.1))
    c.if-below.either

pub returns-else-below : goal.returns-else-below
unfolding stretch_step
returns-else-below c = rw (ne_eqb _ _ c.if-below.false.0, c.if-below.false.1)
