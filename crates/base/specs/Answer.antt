-- What a reader answers, and one reader after another.
use Rattle.std.specs.Prelude.{◌≡◌, refl, ℕ}
use Rattle.std.proofs.Common.{arith}

-- a value and the place of the next unread bin, or a refusal: its number and its place
pub data Answer (A : Type 0) : Type 0 where
  Value : A → ℕ → Answer A
  Refused : ℕ → ℕ → Answer A

-- go on with the value and the place after it, or hand the refusal on
abbrev pub onward : {A B : Type 0} → Answer A → (A → ℕ → Answer B) → Answer B
onward (Value a q) f = f a q
onward (Refused k q) f = Refused k q

pub refused_not : {A : Type 0} {k p q : ℕ} {a : A} → Refused k p ≡ Value a q → ⊥
refused_not e = let z : ◌≡◌ {A = ℕ} 0 1 = cc in omega arith

pub same-value : {A : Type 0} {p q : ℕ} {a b : A} → Value a p ≡ Value b q → a ≡ b
same-value e = cc

pub same_place : {A : Type 0} {p q : ℕ} {a b : A} → Value a p ≡ Value b q → p ≡ q
same_place e = cc

-- what went before a value
pub onward-value : {A B : Type 0} (g : Answer A) (f : A → ℕ → Answer B) {b : B} {q : ℕ} → onward g f ≡ Value b q → (a : A) × (r : ℕ) × (g ≡ Value a r) × (f a r ≡ Value b q)
onward-value (Value a r) f e = (a, r, refl, e)
onward-value (Refused k r) f e = absurd (refused_not e)

-- the same with what follows from it as an argument: the value and its place are variables there, and no long terms
pub went : {A B C : Type 0} (g : Answer A) (f : A → ℕ → Answer B) {b : B} {q : ℕ} → onward g f ≡ Value b q → ((a : A) (r : ℕ) → g ≡ Value a r → f a r ≡ Value b q → C) → C
went (Value a r) f e k = k a r refl e
went (Refused n r) f e k = absurd (refused_not e)
