-- Four numbers below 65536 as one word, and tests of several cells at once by words.
use Rattle.std.specs.Prelude.{◌≡◌, refl, Bool, true, List, eqb, get_or, drop}
use Rattle.std.proofs.Common.{ap, ◌∙◌, get_or-drop}
use Rattle.std.proofs.Math.Path.{sym}
use Prim.Native.Nat.{ℕ, zero, suc, ◌+◌, ◌-◌, ◌*◌, ◌%◌, ◌^◌, ◌≤◌, ◌<◌}
use native.Mathlib.Omega.{arith}
use Rattle.std.specs.Int.Bits.{bit_or, bit_xor}
use borrow.Author.Tests.{eq-eqb, ne_eqb, eqb-true, eqb-false}
use Rattle.base.specs.Pick.{either}
use Rattle.h265.specs.Scan.{above_at}
use Rattle.syntax.specs.Test.{both, copied, drawn}
use Rattle.rules.specs.Collect.{both_assoc, both_unit, test_same, or_none, xor_none}
use Rattle.rules.specs.Turns.{Above}

-- ---- the numbers from a place on are the same

unfoldable pub same : (ℕ → ℕ) → (ℕ → ℕ) → ℕ → ℕ → Bool
same f g zero i = true
same f g (suc k) i = both (eqb (f i) (g i)) (same f g k (suc i))

module _ (f g : ℕ → ℕ) where
  pub same_none : (k i : ℕ) → k ≡ 0 → eqb 0 0 ≡ same f g k i
  unfolding same
  same_none k i e = rw e

  same-join : (k l i : ℕ) → same f g (k + l) i ≡ both (same f g k i) (same f g l (i + k))
  unfolding same both
  same-join zero l i =
      let z : 0 + l ≡ l = omega arith in
      let y : i + 0 ≡ i = omega arith in
      rw (z, y)
  same-join (suc k) l i =
      let z : suc k + l ≡ suc (k + l) = omega arith in
      let y : i + suc k ≡ suc i + k = omega arith in
      rw (z, y) (ap (both (eqb (f i) (g i))) (same-join k l (suc i)) ∙ sym (both_assoc (eqb (f i) (g i)) (same f g k (suc i)) (same f g l (suc i + k))))

  -- a test of the numbers up to i and one of those from there to the end
  pub same-on : (bad d at i to : ℕ) → at ≤ i → i ≤ to → eqb bad 0 ≡ same f g (i - at) at → eqb d 0 ≡ same f g (to - i) i → eqb (bit_or bad d) 0 ≡ same f g (to - at) at
  same-on bad d at i to h l e x =
      let z : to - at ≡ (i - at) + (to - i) = omega arith in
      let y : at + (i - at) ≡ i = omega arith in
      or_none bad d ∙ rw (z, same-join (i - at) (to - i) at, y, e, x)

  -- a difference found before the end
  pub same-early : (bad at i to : ℕ) → at ≤ i → i ≤ to → (bad ≡ 0 → ⊥) → eqb bad 0 ≡ same f g (i - at) at → eqb bad 0 ≡ same f g (to - at) at
  unfolding both
  same-early bad at i to h l d e =
      let z : to - at ≡ (i - at) + (to - i) = omega arith in
      let n = ne_eqb bad 0 d in
      n ∙ sym (rw (z, same-join (i - at) (to - i) at, ← e, n))

-- what stands at a place of a list
abbrev pub cell_at : List ℕ → ℕ → ℕ
cell_at xs j = get_or xs j 0

abbrev pub always : ℕ → ℕ → ℕ
always v j = v

pub drawn-same : (v : ℕ) (xs : List ℕ) (k i : ℕ) → same (cell_at xs) (always v) k i ≡ drawn v xs k i
unfolding same drawn
drawn-same v xs zero i = refl
drawn-same v xs (suc k) i = ap (both (eqb (get_or xs i 0) v)) (drawn-same v xs k (suc i))

pub copied-same : (size : ℕ) (xs up : List ℕ) (k i : ℕ) → Above size xs up (i + k) → same (cell_at xs) (cell_at up) k i ≡ copied size xs k i
unfolding same copied
copied-same size xs up zero i a = refl
copied-same size xs up (suc k) i a = rw (a i (omega arith)) (ap (both (eqb (get_or xs i 0) (above_at size xs i))) (copied-same size xs up k (suc i) (λ j h. a j (omega arith))))

-- ---- words

-- w is the word of a, b, c and d, the first lowest
pub record Word (a b c d w : ℕ) : Type 0 where
  pub is : w ≡ a + 65536 * (b + 65536 * (c + 65536 * d))
  pub first : a < 65536
  pub second : b < 65536
  pub third : c < 65536
  pub fourth : d < 65536

-- w is the word of the numbers from place i on
abbrev pub WordAt : List ℕ → ℕ → ℕ → Type 0
WordAt xs i w = Word (get_or xs i 0) (get_or xs (i + 1) 0) (get_or xs (i + 2) 0) (get_or xs (i + 3) 0) w

pub word-drop : (from : ℕ) (xs : List ℕ) (i w : ℕ) → WordAt xs (from + i) w → WordAt (drop from xs) i w
word-drop from xs i w x =
    let z : from + (i + 1) ≡ from + i + 1 = omega arith in
    let y : from + (i + 2) ≡ from + i + 2 = omega arith in
    let v : from + (i + 3) ≡ from + i + 3 = omega arith in
    rw (get_or-drop from xs i 0, get_or-drop from xs (i + 1) 0, get_or-drop from xs (i + 2) 0, get_or-drop from xs (i + 3) 0, z, y, v) x

-- a digit and the rest
digit : (a r a' r' : ℕ) → a < 65536 → a' < 65536 → eqb (a + 65536 * r) (a' + 65536 * r') ≡ both (eqb a a') (eqb r r')
unfolding both
digit a r a' r' h h' =
    either (eqb a a')
    (λ t.
    let e = eqb-true a a' t in
    rw (t, e) (either (eqb r r')
    (λ s. let y = eqb-true r r' s in rw (s, y) (eq-eqb (a' + 65536 * r') (a' + 65536 * r') refl))
    (λ s. let y = eqb-false r r' s in rw s (ne_eqb (a' + 65536 * r) (a' + 65536 * r') (λ z. y (omega arith))))))
    (λ t. let y = eqb-false a a' t in rw t (ne_eqb (a + 65536 * r) (a' + 65536 * r') (λ z. y (omega arith))))

module _ (f g : ℕ → ℕ) (i w w' : ℕ) (x : Word (f i) (f (i + 1)) (f (i + 2)) (f (i + 3)) w) (y : Word (g i) (g (i + 1)) (g (i + 2)) (g (i + 3)) w') where
  one : same f g 1 i ≡ eqb (f i) (g i)
  unfolding same
  one = both_unit (eqb (f i) (g i))

  two : same f g 2 i ≡ eqb (f i + 65536 * f (i + 1)) (g i + 65536 * g (i + 1))
  unfolding same
  two =
      let u : suc i ≡ i + 1 = omega arith in
      rw (u, both_unit (eqb (f (i + 1)) (g (i + 1)))) (sym (digit (f i) (f (i + 1)) (g i) (g (i + 1)) x.first y.first))

  three : same f g 3 i ≡ eqb (f i + 65536 * (f (i + 1) + 65536 * f (i + 2))) (g i + 65536 * (g (i + 1) + 65536 * g (i + 2)))
  unfolding same
  three =
      let u : suc i ≡ i + 1 = omega arith in
      let v : suc (suc i) ≡ i + 2 = omega arith in
      rw (v, u, both_unit (eqb (f (i + 2)) (g (i + 2))), ← digit (f (i + 1)) (f (i + 2)) (g (i + 1)) (g (i + 2)) x.second y.second) (sym (digit (f i) (f (i + 1) + 65536 * f (i + 2)) (g i) (g (i + 1) + 65536 * g (i + 2)) x.first y.first))

  four : same f g 4 i ≡ eqb w w'
  unfolding same
  four =
      let u : suc i ≡ i + 1 = omega arith in
      let v : suc (suc i) ≡ i + 2 = omega arith in
      let z : suc (suc (suc i)) ≡ i + 3 = omega arith in
      rw (z, v, u, both_unit (eqb (f (i + 3)) (g (i + 3))), ← digit (f (i + 2)) (f (i + 3)) (g (i + 2)) (g (i + 3)) x.third y.third, ← digit (f (i + 1)) (f (i + 2) + 65536 * f (i + 3)) (g (i + 1)) (g (i + 2) + 65536 * g (i + 3)) x.second y.second, x.is, y.is) (sym (digit (f i) (f (i + 1) + 65536 * (f (i + 2) + 65536 * f (i + 3))) (g i) (g (i + 1) + 65536 * (g (i + 2) + 65536 * g (i + 3))) x.first y.first))

  -- two words are the same where their four numbers are
  pub word_same : (k : ℕ) → k ≡ 4 → eqb (bit_xor w w') 0 ≡ same f g k i
  word_same k e = rw e (xor_none w w' ∙ sym four)

  -- so are their first k numbers
  pub first-same : (k : ℕ) → 1 ≤ k → k ≤ 4 → eqb (w % 2 ^ (16 * k)) (w' % 2 ^ (16 * k)) ≡ same f g k i
  first-same zero o h = absurd (omega arith)
  first-same (suc zero) o h =
      let u : w % 65536 ≡ f i = omega arith in
      let v : w' % 65536 ≡ g i = omega arith in
      rw (u, v) (sym one)
  first-same (suc (suc zero)) o h =
      let u : w % 4294967296 ≡ f i + 65536 * f (i + 1) = omega arith in
      let v : w' % 4294967296 ≡ g i + 65536 * g (i + 1) = omega arith in
      rw (u, v) (sym two)
  first-same (suc (suc (suc zero))) o h =
      let u : w % 281474976710656 ≡ f i + 65536 * (f (i + 1) + 65536 * f (i + 2)) = omega arith in
      let v : w' % 281474976710656 ≡ g i + 65536 * (g (i + 1) + 65536 * g (i + 2)) = omega arith in
      rw (u, v) (sym three)
  first-same (suc (suc (suc (suc zero)))) o h =
      let u : w % 18446744073709551616 ≡ w = omega arith in
      let v : w' % 18446744073709551616 ≡ w' = omega arith in
      rw (u, v) (sym four)
  first-same (suc (suc (suc (suc (suc k))))) o h = absurd (omega arith)

-- ---- the first numbers of two words, by shifting the others out

shifted_same : (a b k s : ℕ) → 1 ≤ k → k ≤ 4 → s ≡ 64 - 16 * k → eqb (a * 2 ^ s % 2 ^ 64) (b * 2 ^ s % 2 ^ 64) ≡ eqb (a % 2 ^ (16 * k)) (b % 2 ^ (16 * k))
shifted_same a b zero s o h e = absurd (omega arith)
shifted_same a b (suc zero) s o h e =
    let u : a * 281474976710656 % 18446744073709551616 ≡ a % 65536 * 281474976710656 = omega arith in
    let v : b * 281474976710656 % 18446744073709551616 ≡ b % 65536 * 281474976710656 = omega arith in
    rw (e, u, v) (test_same (a % 65536 * 281474976710656) (b % 65536 * 281474976710656) (a % 65536) (b % 65536) (λ z. omega arith) (λ z. omega arith))
shifted_same a b (suc (suc zero)) s o h e =
    let u : a * 4294967296 % 18446744073709551616 ≡ a % 4294967296 * 4294967296 = omega arith in
    let v : b * 4294967296 % 18446744073709551616 ≡ b % 4294967296 * 4294967296 = omega arith in
    rw (e, u, v) (test_same (a % 4294967296 * 4294967296) (b % 4294967296 * 4294967296) (a % 4294967296) (b % 4294967296) (λ z. omega arith) (λ z. omega arith))
shifted_same a b (suc (suc (suc zero))) s o h e =
    let u : a * 65536 % 18446744073709551616 ≡ a % 281474976710656 * 65536 = omega arith in
    let v : b * 65536 % 18446744073709551616 ≡ b % 281474976710656 * 65536 = omega arith in
    rw (e, u, v) (test_same (a % 281474976710656 * 65536) (b % 281474976710656 * 65536) (a % 281474976710656) (b % 281474976710656) (λ z. omega arith) (λ z. omega arith))
shifted_same a b (suc (suc (suc (suc zero)))) s o h e =
    let u : a * 1 ≡ a = omega arith in
    let v : b * 1 ≡ b = omega arith in
    rw (e, u, v)
shifted_same a b (suc (suc (suc (suc (suc k))))) s o h e = absurd (omega arith)

-- only the first k numbers of two words are left by a shift
pub shifted_none : (a b k s : ℕ) → 1 ≤ k → k ≤ 4 → s ≡ 64 - 16 * k → eqb (bit_xor (a * 2 ^ s % 2 ^ 64) (b * 2 ^ s % 2 ^ 64)) 0 ≡ eqb (a % 2 ^ (16 * k)) (b % 2 ^ (16 * k))
shifted_none a b k s o h e = xor_none (a * 2 ^ s % 2 ^ 64) (b * 2 ^ s % 2 ^ 64) ∙ shifted_same a b k s o h e
