-- Tests put together: every one of a list, any of it, and a test at every place below a bound.
use Rattle.std.specs.Prelude.{Bool, true, false, ◌&&◌, ◌||◌, List, [], ◌∷◌, ◌++◌, ◌≡◌}
use Rattle.std.proofs.Math.Path.{refl}
use Rattle.std.proofs.Common.{ap, sym}
use Rattle.std.proofs.Math.Logic.{⊎_elim}
use Prim.Native.Nat.{ℕ, zero, suc, ◌+◌, ◌≤◌, ◌<◌}
use Rattle.std.proofs.Math.Numerals.{add-one}
use native.Mathlib.Omega.{arith}
use Rattle.base.specs.Pick.{pick, true_false, lt_or_le}

abbrev pub every : List Bool → Bool
every [] = true
every (b ∷ bs) = pick b (every bs) false

abbrev pub any : List Bool → Bool
any [] = false
any (b ∷ bs) = pick b true (any bs)

-- f holds at every place below n
unfoldable pub up_to : ℕ → (ℕ → Bool) → Bool
up_to zero f = true
up_to (suc n) f = pick (up_to n f) (f n) false

-- the number of the first test that fails, 0 where all hold
abbrev pub refusal : List (Bool × ℕ) → ℕ
refusal [] = 0
refusal ((t, k) ∷ ts) = pick t (refusal ts) k

-- ---- laws

-- both of two hold
pub both : (a b : Bool) → pick a b false ≡ true → (a ≡ true) × (b ≡ true)
both true b e = (refl, e)
both false b e = absurd (true_false (sym e))

pub pick_same : {A : Type 0} (t : Bool) (a : A) → pick t a a ≡ a
pick_same true a = refl
pick_same false a = refl

pub pick_test : (t : Bool) → pick t true false ≡ t
pick_test true = refl
pick_test false = refl

pub and_pick : (a b : Bool) → a && b ≡ pick a b false
and_pick true b = refl
and_pick false b = refl

pub pick_and : (a b c : Bool) → a && b ≡ false → pick a (pick b c false) false ≡ false
pick_and true true c e = absurd (true_false e)
pick_and true false c e = refl
pick_and false b c e = refl

pub or_pick : (a b : Bool) → a || b ≡ pick a true b
or_pick true b = refl
or_pick false b = refl

-- tests joined one after the other, as code joins them
abbrev pub ands : Bool → List Bool → Bool
ands a [] = a
ands a (b ∷ bs) = ands (a && b) bs

abbrev pub ors : Bool → List Bool → Bool
ors a [] = a
ors a (b ∷ bs) = ors (a || b) bs

pub ands-every : (a : Bool) (bs : List Bool) → ands a bs ≡ every (a ∷ bs)
ands-every a [] = sym (pick_test a)
ands-every true (b ∷ bs) = ands-every b bs
ands-every false (b ∷ bs) = ands-every false bs

pub ors-any : (a : Bool) (bs : List Bool) → ors a bs ≡ any (a ∷ bs)
ors-any a [] = sym (pick_test a)
ors-any true (b ∷ bs) = ors-any true bs
ors-any false (b ∷ bs) = ors-any b bs

pub every_append : (xs ys : List Bool) → every (xs ++ ys) ≡ pick (every xs) (every ys) false
every_append [] ys = refl
every_append (true ∷ xs) ys = every_append xs ys
every_append (false ∷ xs) ys = refl

pub every-swap : (a b : Bool) (cs : List Bool) → every (a ∷ b ∷ cs) ≡ every (b ∷ a ∷ cs)
every-swap true true cs = refl
every-swap true false cs = refl
every-swap false true cs = refl
every-swap false false cs = refl

module _ (f : ℕ → Bool) where
  pub up_to-none : up_to 0 f ≡ true
  unfolding up_to
  up_to-none = refl

  pub up_to-next : (n : ℕ) → up_to (n + 1) f ≡ pick (up_to n f) (f n) false
  unfolding up_to
  up_to-next n = rw add-one

  -- it holds at each place below n
  pub up_to-at : (n : ℕ) → up_to n f ≡ true → (i : ℕ) → i < n → f i ≡ true
  unfolding up_to
  up_to-at zero e i h = absurd (omega arith)
  up_to-at (suc n) e i h =
      let b = both (up_to n f) (f n) e in
      ⊎_elim (λ (l : i < n). up_to-at n b.0 i l) (λ (l : n ≤ i). let z : i ≡ n = omega arith in rw z b.1) (lt_or_le i n)

  pub at_up_to : (n : ℕ) → ((i : ℕ) → i < n → f i ≡ true) → up_to n f ≡ true
  unfolding up_to
  at_up_to zero h = refl
  at_up_to (suc n) h = rw (at_up_to n (λ i l. h i (omega arith))) (h n (omega arith))

  -- it fails at one
  pub up_to_fails : (n i : ℕ) → i < n → f i ≡ false → up_to n f ≡ false
  unfolding up_to
  up_to_fails zero i h e = absurd (omega arith)
  up_to_fails (suc n) i h e =
      ⊎_elim
      (λ (l : i < n). rw (up_to_fails n i l e))
      (λ (l : n ≤ i). let z : n ≡ i = omega arith in rw (z, e) (pick_same (up_to i f) false))
      (lt_or_le i n)

-- only the places below n count
pub up_to-same : (n : ℕ) (f g : ℕ → Bool) → ((i : ℕ) → i < n → f i ≡ g i) → up_to n f ≡ up_to n g
unfolding up_to
up_to-same zero f g h = refl
up_to-same (suc n) f g h = rw (up_to-same n f g (λ i l. h i (omega arith)), h n (omega arith))

-- two tests at every place
pub up_to-both : (n : ℕ) (f g : ℕ → Bool) → up_to n (λ i. every (f i ∷ g i ∷ [])) ≡ pick (up_to n f) (up_to n g) false
unfolding up_to
up_to-both zero f g = refl
up_to-both (suc n) f g = rw (up_to-both n f g) (go (up_to n f) (up_to n g) (f n) (g n))
  where
    go : (a b c d : Bool) → pick (pick a b false) (every (c ∷ d ∷ [])) false ≡ pick (pick a c false) (pick b d false) false
    go true true c d = ap (λ (t : Bool). pick c t false) (pick_test d)
    go true false c d = sym (pick_same c false)
    go false b c d = refl
