-- How often a test holds below a bound, and the sum of a function below it.
use Rattle.std.specs.Prelude.{◌≡◌, Bool}
use Rattle.std.proofs.Math.Path.{refl}
use Rattle.std.proofs.Math.Bool.{true, false}
use Rattle.std.proofs.Math.Logic.{⊎_elim}
use Prim.Native.Nat.{ℕ, zero, suc, ◌+◌, ◌≤◌, ◌<◌}
use Rattle.std.proofs.Math.Numerals.{add-one}
use native.Mathlib.Omega.{arith}
use Rattle.base.specs.Pick.{pick, either, lt_or_le}

unfoldable pub how_many : ℕ → (ℕ → Bool) → ℕ
how_many zero f = 0
how_many (suc n) f = pick (f n) (how_many n f + 1) (how_many n f)

unfoldable pub sum_to : ℕ → (ℕ → ℕ) → ℕ
sum_to zero f = 0
sum_to (suc n) f = sum_to n f + f n

-- ---- laws

module _ (f : ℕ → Bool) where
  pub how_many-none : how_many 0 f ≡ 0
  unfolding how_many
  how_many-none = refl

  pub how_many-next : (n : ℕ) → how_many (n + 1) f ≡ pick (f n) (how_many n f + 1) (how_many n f)
  unfolding how_many
  how_many-next n = rw add-one

  pub how_many_le : (n : ℕ) → how_many n f ≤ n
  unfolding how_many
  how_many_le zero = omega arith
  how_many_le (suc n) = go (f n) (how_many_le n)
    where
      go : (b : Bool) → how_many n f ≤ n → pick b (how_many n f + 1) (how_many n f) ≤ suc n
      go true h = omega arith
      go false h = omega arith

  -- none below n holds
  pub how_many_zero : (n : ℕ) → how_many n f ≡ 0 → (i : ℕ) → i < n → f i ≡ false
  unfolding how_many
  how_many_zero zero e i h = absurd (omega arith)
  how_many_zero (suc n) e i h =
      either (f n)
      (λ t. let z : how_many n f + 1 ≡ 0 = rw t at e in absurd (omega arith))
      (λ t.
      let z : how_many n f ≡ 0 = rw t at e in
      ⊎_elim (λ (l : i < n). how_many_zero n z i l) (λ (l : n ≤ i). let q : i ≡ n = omega arith in rw q t) (lt_or_le i n))

module _ (f : ℕ → ℕ) where
  pub sum_to-none : sum_to 0 f ≡ 0
  unfolding sum_to
  sum_to-none = refl

  pub sum_to-next : (n : ℕ) → sum_to (n + 1) f ≡ sum_to n f + f n
  unfolding sum_to
  sum_to-next n = rw add-one

  -- a stretch after another
  pub sum_to-add : (a k : ℕ) → sum_to (a + k) f ≡ sum_to a f + sum_to k (λ j. f (a + j))
  unfolding sum_to
  sum_to-add a zero = let e : a + 0 ≡ a = omega arith in rw e (omega arith)
  sum_to-add a (suc k) = let e : a + suc k ≡ suc (a + k) = omega arith in rw (e, sum_to-add a k) (omega arith)

-- only the places below n count
pub how_many-same : (n : ℕ) (f g : ℕ → Bool) → ((i : ℕ) → i < n → f i ≡ g i) → how_many n f ≡ how_many n g
unfolding how_many
how_many-same zero f g h = refl
how_many-same (suc n) f g h = rw (how_many-same n f g (λ i l. h i (omega arith)), h n (omega arith))

pub sum_to-same : (n : ℕ) (f g : ℕ → ℕ) → ((i : ℕ) → i < n → f i ≡ g i) → sum_to n f ≡ sum_to n g
unfolding sum_to
sum_to-same zero f g h = refl
sum_to-same (suc n) f g h = rw (sum_to-same n f g (λ i l. h i (omega arith)), h n (omega arith))
