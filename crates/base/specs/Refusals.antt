-- Refusals one after the other: the first list of tests decides where one of it fails, else the rest.
use Rattle.std.specs.Prelude.{◌≡◌, refl, Bool, true, false, List, [], ◌∷◌, ◌++◌, ℕ, ◌≤◌, eqb}
use Rattle.std.proofs.Common.{◌∙◌, arith, ne_eqb}
use Rattle.base.specs.Pick.{pick}
use Rattle.base.specs.Tests.{refusal}

-- the numbers are from 1 on
abbrev pub Numbered : List (Bool × ℕ) → Type 0
Numbered [] = Unit {0}
Numbered ((t, k) ∷ ts) = (1 ≤ k) × Numbered ts

pub refusal-append : (ts us : List (Bool × ℕ)) → Numbered ts → refusal (ts ++ us) ≡ pick (eqb (refusal ts) 0) (refusal us) (refusal ts)
refusal-append [] us h = refl
refusal-append ((true, k) ∷ ts) us h = refusal-append ts us h.1
refusal-append ((false, k) ∷ ts) us h = rw (ne_eqb k 0 (λ e. omega (arith, h.0)))

-- the first list refuses
pub refused-early : (ts us : List (Bool × ℕ)) (k : ℕ) → Numbered ts → refusal ts ≡ k → 1 ≤ k → refusal (ts ++ us) ≡ k
refused-early ts us k h e o = refusal-append ts us h ∙ rw (e, ne_eqb k 0 (λ z. omega arith))

-- it does not
pub refused-late : (ts us : List (Bool × ℕ)) → Numbered ts → refusal ts ≡ 0 → refusal (ts ++ us) ≡ refusal us
refused-late ts us h e = refusal-append ts us h ∙ rw e

-- no refusal: the first test holds, and none of the rest refuses
pub refused_not : (t : Bool) (k : ℕ) (ts : List (Bool × ℕ)) → 1 ≤ k → refusal ((t, k) ∷ ts) ≡ 0 → (t ≡ true) × (refusal ts ≡ 0)
refused_not true k ts o e = (refl, e)
refused_not false k ts o e = absurd (omega arith)
