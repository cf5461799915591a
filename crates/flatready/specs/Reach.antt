-- Numbers that are over a bound by no more than a number that has the bits of all that they are over it.
use Rattle.std.specs.Prelude.{◌≡◌, true, List, ℕ, ◌+◌, ◌*◌, ◌-◌, ◌≤◌, ◌<◌, leb}
use Rattle.std.proofs.Common.{⊎_elim, arith, le-leb}
use Rattle.std.specs.Int.Bits.{bit_or, or_add_and}
use Rattle.std.proofs.lemmas.Nat.{and_le_l, and_le_r}
use Rattle.base.specs.Pick.{lt_or_le}
use Rattle.base.specs.Tests.{up_to, at_up_to}
use Rattle.flat.specs.Flat.{number}

-- n numbers from a place on are at most m + r
abbrev pub Under : List ℕ → ℕ → ℕ → ℕ → ℕ → Type 0
Under l from n m r = (i : ℕ) → i < n → number l (from + i) ≤ m + r

or_left : (a b : ℕ) → a ≤ bit_or a b
or_left a b = omega (arith, or_add_and a b, and_le_r a b)

or_right : (a b : ℕ) → b ≤ bit_or a b
or_right a b = omega (arith, or_add_and a b, and_le_l a b)

pub four-over : (a b c d m w x y z : ℕ) → w ≡ a - m → x ≡ b - m → y ≡ c - m → z ≡ d - m → (a ≤ m + bit_or (bit_or w x) (bit_or y z)) × (b ≤ m + bit_or (bit_or w x) (bit_or y z)) × (c ≤ m + bit_or (bit_or w x) (bit_or y z)) × (d ≤ m + bit_or (bit_or w x) (bit_or y z))
four-over a b c d m w x y z ew ex ey ez =
    let l = or_left (bit_or w x) (bit_or y z) in
    let r = or_right (bit_or w x) (bit_or y z) in
    (omega (arith, or_left w x), omega (arith, or_right w x), omega (arith, or_left y z), omega (arith, or_right y z))

module _ (l : List ℕ) (from : ℕ) where
  pub under_none : (m r : ℕ) → Under l from 0 m r
  under_none m r i h = absurd (omega arith)

  pub under_next : (i m r x : ℕ) → Under l from i m r → number l (from + i) ≤ m + x → Under l from (i + 1) m (bit_or r x)
  under_next i m r x u h j k =
      ⊎_elim
      (λ (z : j < i). omega (arith, u j z, or_left r x))
      (λ (z : i ≤ j). let e : j ≡ i = omega arith in rw e (omega (arith, or_right r x)))
      (lt_or_le j i)

  -- four stretches make one
  pub under-four : (n m r : ℕ) → Under l from n m r → Under l (from + n) n m r → Under l (from + 2 * n) n m r → Under l (from + 3 * n) n m r → Under l from (4 * n) m r
  under-four n m r a b c d i h =
      ⊎_elim
      (λ (z : i < n). a i z)
      (λ (z : n ≤ i).
      ⊎_elim
      (λ (y : i < 2 * n). let e : from + n + (i - n) ≡ from + i = omega arith in rw e at (b (i - n) (omega arith)))
      (λ (y : 2 * n ≤ i).
      ⊎_elim
      (λ (x : i < 3 * n). let e : from + 2 * n + (i - 2 * n) ≡ from + i = omega arith in rw e at (c (i - 2 * n) (omega arith)))
      (λ (x : 3 * n ≤ i). let e : from + 3 * n + (i - 3 * n) ≡ from + i = omega arith in rw e at (d (i - 3 * n) (omega arith)))
      (lt_or_le i (3 * n)))
      (lt_or_le i (2 * n)))
      (lt_or_le i n)

  pub under_up_to : (k n m r w : ℕ) → Under l from n m r → k ≤ n → m + r ≤ w → up_to k (λ i. leb (number l (from + i)) w) ≡ true
  under_up_to k n m r w u h o = at_up_to _ k (λ i z. le-leb _ w (omega (arith, u i (omega arith))))
