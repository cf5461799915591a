-- Codes made of codes: a value sent only where a test holds, and one value for each of a list.
use Rattle.std.specs.Prelude.{◌≡◌, refl, Bool, true, false, ℕ, suc, length}
use Rattle.std.proofs.Common.{ap, sym}
use mathlib.Core.List.{List, [], ◌∷◌, ◌++◌}
use Rattle.base.specs.Pick.{pick, true_false}
use Rattle.base.specs.Answer.{Answer, Value, onward, went, same-value, same_place}
use Rattle.base.specs.Stands.{Stands, stands-none, none-stands, join, split, Code}

-- ---- sent where t holds, else inferred to be d

abbrev pub when_at : {A : Type 0} → Bool → A → (List ℕ → ℕ → Answer A) → List ℕ → ℕ → Answer A
when_at t d read l p = pick t (read l p) (Value d p)

abbrev pub when_bins : {A : Type 0} → Bool → (A → List ℕ) → A → List ℕ
when_bins t bins a = pick t (bins a) []

pub record When {A : Type 0} (t : Bool) (d : A) (Ok : A → Type 0) (a : A) : Type 0 where
  pub sent : t ≡ true → Ok a
  pub unsent : t ≡ false → a ≡ d

pub when_code : {A : Type 0} {read : List ℕ → ℕ → Answer A} {bins : A → List ℕ} {Ok : A → Type 0} (t : Bool) (d : A) → Code read bins Ok → Code (when_at t d read) (when_bins t bins) (When t d Ok)
when_code true d c = record {
  there = λ l p q a ok s. c.there l p q a (ok.sent refl) s;
  back = λ l p q a e. let b = c.back l p q a e in (b.0, record { sent = λ z. b.1; unsent = λ z. absurd (true_false z) });
}
when_code false d c = record {
  there = λ l p q a ok s. rw (ok.unsent refl, none-stands s);
  back = λ l p q a e. (rw (← same_place e) (stands-none l p), record { sent = λ z. absurd (true_false (sym z)); unsent = λ z. sym (same-value e) });
}

-- ---- one value for each x of a list

unfoldable pub each_at : {X A : Type 0} → (X → List ℕ → ℕ → Answer A) → List X → List ℕ → ℕ → Answer (List A)
each_at read [] l p = Value [] p
each_at read (x ∷ xs) l p = onward (read x l p) (λ a q. onward (each_at read xs l q) (λ vs t. Value (a ∷ vs) t))

unfoldable pub each_bins : {X A : Type 0} → (X → A → List ℕ) → List X → List A → List ℕ
each_bins bins [] vs = []
each_bins bins (x ∷ xs) [] = []
each_bins bins (x ∷ xs) (a ∷ vs) = bins x a ++ each_bins bins xs vs

-- one value for each x, each fit for its own
abbrev pub Each : {X A : Type 0} → (X → A → Type 0) → List X → List A → Type 0
Each Ok [] [] = Unit {0}
Each Ok [] (a ∷ vs) = ⊥
Each Ok (x ∷ xs) [] = ⊥
Each Ok (x ∷ xs) (a ∷ vs) = Ok x a × Each Ok xs vs

abbrev pub All : {X : Type 0} → (X → Type 0) → List X → Type 0
All Good [] = Unit {0}
All Good (x ∷ xs) = Good x × All Good xs

pub each-length : {X A : Type 0} (Ok : X → A → Type 0) (xs : List X) (vs : List A) → Each Ok xs vs → length vs ≡ length xs
each-length Ok [] [] h = refl
each-length Ok [] (a ∷ vs) h = absurd h
each-length Ok (x ∷ xs) [] h = absurd h
each-length Ok (x ∷ xs) (a ∷ vs) h = ap suc (each-length Ok xs vs h.1)

module _ {X A : Type 0} (read : X → List ℕ → ℕ → Answer A) (bins : X → A → List ℕ) (Good : X → Type 0) (Ok : X → A → Type 0) (code : (x : X) → Good x → Code (read x) (bins x) (Ok x)) where
  each-there : (xs : List X) → All Good xs → (l : List ℕ) (p q : ℕ) (vs : List A) → Each Ok xs vs → Stands l p (each_bins bins xs vs) q → each_at read xs l p ≡ Value vs q
  unfolding each_at each_bins
  each-there [] g l p q [] h s = rw (none-stands s)
  each-there [] g l p q (a ∷ vs) h s = absurd h
  each-there (x ∷ xs) g l p q [] h s = absurd h
  each-there (x ∷ xs) g l p q (a ∷ vs) h s =
      let w = split (bins x a) (each_bins bins xs vs) s in
      rw ((code x g.0).there l p w.mid a h.0 w.first, each-there xs g.1 l w.mid q vs h.1 w.second)

  each_back : (xs : List X) → All Good xs → (l : List ℕ) (p q : ℕ) (vs : List A) → each_at read xs l p ≡ Value vs q → Stands l p (each_bins bins xs vs) q × Each Ok xs vs
  unfolding each_at each_bins
  each_back [] g l p q vs e = rw (← same-value e, ← same_place e) (stands-none l p, tt)
  each_back (x ∷ xs) g l p q vs e =
      went (read x l p) _ e (λ a r ea e₁.
      went (each_at read xs l r) _ e₁ (λ bs t eb e₂.
      let b = (code x g.0).back l p r a ea in
      let c = each_back xs g.1 l r t bs eb in
      rw (← same-value e₂, ← same_place e₂) (join b.0 c.0, (b.1, c.1))))

  pub each_code : (xs : List X) → All Good xs → Code (each_at read xs) (each_bins bins xs) (Each Ok xs)
  each_code xs g = record { there = each-there xs g; back = each_back xs g }
