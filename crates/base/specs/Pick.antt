-- A choice by a test, and reasoning by cases on it.
use Rattle.std.specs.Prelude.{◌≡◌, refl, Bool, true, false, ◌⊎◌, ℕ, ◌≤◌, ◌<◌, ltb, eqb}
use Rattle.std.proofs.Common.{ap, inl, inr, arith, ltb-true, ltb-false, eqb-true}
use Rattle.std.proofs.lemmas.Bool.{eqb-false}

-- the first of two where the test holds, else the second
abbrev pub pick : {A : Type 0} → Bool → A → A → A
pick true a b = a
pick false a b = b

-- by cases on a test, with what it says
pub either : {C : Type 0} (t : Bool) → (t ≡ true → C) → (t ≡ false → C) → C
either true a b = a refl
either false a b = b refl

pub true_false : true ≡ false → ⊥
true_false e = let z : ◌≡◌ {A = ℕ} 1 0 = ap (λ (b : Bool). pick b 1 0) e in omega arith

pub lt_or_le : (a b : ℕ) → (a < b) ⊎ (b ≤ a)
lt_or_le a b = either (ltb a b) (λ e. inl (ltb-true a b e)) (λ e. inr (ltb-false a b e))

pub eq_or_ne : (a b : ℕ) → (a ≡ b) ⊎ (a ≡ b → ⊥)
eq_or_ne a b = either (eqb a b) (λ e. inl (eqb-true a b e)) (λ e. inr (eqb-false a b e))
