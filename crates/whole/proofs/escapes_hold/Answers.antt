use mathlib.Core.Bool.{true}
use mathlib.Core.Path.{◌≡◌, refl, ◌∙◌, sym}
use native.Mathlib.Omega.{arith}
use Rattle.base.specs.Tests.{up_to-none, up_to-next, up_to_fails}
use Rattle.whole.specs.Parts.{escape_holds, escape_levels, escape_none, quiet_ends, quiet_on}
use Rattle.std.proofs.Common.{ne_eqb}
use Rattle.base.specs.Pick.{true_false}
use Rattle.whole.proofs.escapes_hold.Goals as goal
use Rattle.whole.proofs.escapes_hold.Goals.{then-from-cu, else-from-cu}

pub overflow_cast-p : goal.overflow_cast-p
overflow_cast-p c = omega (arith, c.requires.3)

pub loop-i-init : goal.loop-i-init
loop-i-init c = (omega arith, up_to-none _)

pub quiet-requires : goal.quiet-requires
quiet-requires c = (c.loop-i.invariant.0, c.requires.0)

pub overflow_add-i : goal.overflow_add-i
overflow_add-i c = omega (arith, c.requires.0)

pub loop-i-smaller-then-quiet : goal.loop-i-smaller-then-quiet
loop-i-smaller-then-quiet c = omega (arith, quiet_ends _ _ _ _ (sym c.quiet.ensures ∙ c.if-quiet.true))

pub loop-i-preserved-then-quiet : goal.loop-i-preserved-then-quiet
loop-i-preserved-then-quiet c = let l = c.loop-i in
    let cu = c.args.cu.now in
    let e = sym c.quiet.ensures ∙ c.if-quiet.true in
    (quiet_ends _ _ _ _ e, quiet_on cu l.i c.args.n _ refl e l.invariant.1)

pub returns : goal.returns
returns c = let e : c.loop-i.i ≡ c.args.n = omega arith in
    sym (rw e at c.loop-i.invariant.1)

pub loop-i-preserved : goal.loop-i-preserved
loop-i-preserved c = let l = c.loop-i in
    let cu = c.args.cu.now in
    let e : escape_holds cu l.i ≡ true =
    elim c.if-from-cu.branch [ then-from-cu w ↦ escape_none cu l.i (λ z. w.if-from-cu.true (c.from.ensures ∙ z)) | else-from-cu w ↦ escape_levels cu l.i (sym c.from.ensures ∙ w.if-from-cu.false) ∙ sym (w.within.ensures cu c.requires.1 c.requires.2) ∙ sym w.value-is ∙ c.if-within.true ]
    in
    (omega arith, up_to-next (escape_holds cu) l.i ∙ rw l.invariant.1 e)

pub returns-else-within : goal.returns-else-within
returns-else-within c = let l = c.loop-i in
    let cu = c.args.cu.now in
    elim c.if-from-cu.branch [ then-from-cu w ↦ absurd (true_false (rw (ne_eqb _ _ w.if-from-cu.true) at (sym w.value-is ∙ c.if-within.false))) | else-from-cu w ↦ sym (up_to_fails (escape_holds cu) c.args.n l.i (omega arith) (escape_levels cu l.i (sym c.from.ensures ∙ w.if-from-cu.false) ∙ sym (w.within.ensures cu c.requires.1 c.requires.2) ∙ sym w.value-is ∙ c.if-within.false)) ]
