-- Laws of the bin strings: each one's first step, its length, and what decides the logarithm.
use Rattle.std.specs.Prelude.{◌≡◌, refl, Bool, true, false, List, [], ◌∷◌, ◌++◌, ℕ, zero, suc, ◌+◌, ◌*◌, ◌-◌, ◌/◌, ◌%◌, ◌^◌, ◌≤◌, ◌<◌, ltb, length}
use Rattle.std.proofs.Common.{ap, sym, ◌∙◌, le_refl, arith, pow_pos, pow_mono, lt-ltb, le-ltb, ltb-true, ltb-false}
use Rattle.std.proofs.Math.Nat.{div-div-eq-div-mul, mul-add-div_right, mul-add-mod_self_right}
use Rattle.std.proofs.Math.Pow.{split as pow-split}
use Rattle.std.proofs.Math.Numerals.{add-one}
use Rattle.base.specs.Powers.{pow_next}
use Rattle.h265.specs.Strings.{bits, egk_aux, egk, flog_aux, flog, tb, short, unary}

pub length-bits : (n v : ℕ) → length (bits n v) ≡ n
unfolding bits
length-bits zero v = refl
length-bits (suc n) v = ap suc (length-bits n v)

-- the first of i bits
pub bits-cons : (i v : ℕ) → 0 < i → bits i v ≡ ((v / 2 ^ (i - 1) % 2) ∷ []) ++ bits (i - 1) v
unfolding bits
bits-cons zero v h = absurd (omega arith)
bits-cons (suc i) v h = let e : suc i - 1 ≡ i = omega arith in rw e

egk-enough : (f g k v : ℕ) → v ≤ f → v ≤ g → egk_aux f k v ≡ egk_aux g k v
unfolding egk_aux
egk-enough zero zero k v p q = refl
egk-enough zero (suc g) k v p q =
    let h : v < 2 ^ k = omega (arith, pow_pos k) in
    rw (lt-ltb v (2 ^ k) h)
egk-enough (suc f) zero k v p q =
    let h : v < 2 ^ k = omega (arith, pow_pos k) in
    rw (lt-ltb v (2 ^ k) h)
egk-enough (suc f) (suc g) k v p q =
    rw (egk-enough f g (suc k) (v - 2 ^ k) (omega (arith, pow_pos k)) (omega (arith, pow_pos k)))

pub egk-last : (k v : ℕ) → v < 2 ^ k → egk k v ≡ 0 ∷ bits k v
unfolding egk egk_aux
egk-last k zero h = refl
egk-last k (suc v) h = rw (lt-ltb (suc v) (2 ^ k) h)

pub egk-more : (k v : ℕ) → 2 ^ k ≤ v → egk k v ≡ 1 ∷ egk (suc k) (v - 2 ^ k)
unfolding egk egk_aux
egk-more k zero h = absurd (omega (arith, pow_pos k))
egk-more k (suc v) h = rw (le-ltb (suc v) (2 ^ k) h) (ap (λ (l : List ℕ). 1 ∷ l) (egk-enough v (suc v - 2 ^ k) (suc k) (suc v - 2 ^ k) (omega (arith, pow_pos k)) (le_refl _)))

-- the same over what a writer holds: p is 2^k
pub egk-turn : (k v p : ℕ) → p ≡ 2 ^ k → p ≤ v → egk k v ≡ (1 ∷ []) ++ egk (k + 1) (v - p)
egk-turn k v p e h = rw (e, add-one k) (egk-more k v (omega arith))

-- v ones of at most m, and bin number i is next
module _ (c : ℕ → ℕ) (i m v : ℕ) where
  pub unary-more : (j w : ℕ) → m ≡ suc j → v ≡ suc w → unary c i m v ≡ ((c i * 2 + 1) ∷ []) ++ unary c (i + 1) j w
  unfolding unary
  unary-more j w e f = rw (e, f, add-one i)

  pub unary-stop : (j : ℕ) → m ≡ suc j → v ≡ 0 → unary c i m v ≡ c i * 2 ∷ []
  unfolding unary
  unary-stop j e f = rw (e, f)

  pub unary_full : m ≡ 0 → unary c i m v ≡ []
  unfolding unary
  unary_full e = rw e

pub length-unary : (c : ℕ → ℕ) (i m v : ℕ) → length (unary c i m v) ≤ m
unfolding unary
length-unary c i zero v = omega arith
length-unary c i (suc m) zero = omega arith
length-unary c i (suc m) (suc v) = omega (arith, length-unary c (suc i) m v)

flog-enough : (f g n : ℕ) → n ≤ f → n ≤ g → flog_aux f n ≡ flog_aux g n
unfolding flog_aux
flog-enough zero zero n p q = refl
flog-enough zero (suc g) n p q =
    let h : n < 2 = omega arith in
    rw (lt-ltb n 2 h)
flog-enough (suc f) zero n p q =
    let h : n < 2 = omega arith in
    rw (lt-ltb n 2 h)
flog-enough (suc f) (suc g) n p q = rw (flog-enough f g (n / 2) (omega arith) (omega arith))

flog-small : (n : ℕ) → n < 2 → flog n ≡ 0
unfolding flog flog_aux
flog-small zero h = refl
flog-small (suc n) h = rw (lt-ltb (suc n) 2 h)

flog-more : (n : ℕ) → 2 ≤ n → flog n ≡ suc (flog (n / 2))
unfolding flog flog_aux
flog-more zero h = absurd (omega arith)
flog-more (suc n) h = rw (le-ltb (suc n) 2 h) (ap suc (flog-enough n (suc n / 2) (suc n / 2) (omega arith) (le_refl _)))

-- the logarithm is the one exponent between whose powers n lies
pub flog-is : (j n : ℕ) → 2 ^ j ≤ n → n < 2 ^ suc j → flog n ≡ j
flog-is zero n p q = flog-small n q
flog-is (suc j) n p q =
    let h : 2 ≤ n = omega (arith, pow_pos j) in
    flog-more n h ∙ ap suc (flog-is j (n / 2) (omega arith) (omega arith))

flog-between : (f n : ℕ) → n ≤ f → 1 ≤ n → (2 ^ flog n ≤ n) × (n < 2 ^ suc (flog n))
flog-between zero n p q = absurd (omega arith)
flog-between (suc f) n p q = go (ltb n 2) refl (λ h. flog-between f (n / 2) (omega arith) h)
  where
    go : (b : Bool) → ltb n 2 ≡ b → (1 ≤ n / 2 → (2 ^ flog (n / 2) ≤ n / 2) × (n / 2 < 2 ^ suc (flog (n / 2)))) → (2 ^ flog n ≤ n) × (n < 2 ^ suc (flog n))
    go true e h = let z : n < 2 = ltb-true n 2 e in rw (flog-small n z) (omega arith)
    go false e h =
        let z : 2 ≤ n = ltb-false n 2 e in
        let y = h (omega arith) in
        rw (flog-more n z) (omega arith)

pub flog-low : (n : ℕ) → 1 ≤ n → 2 ^ flog n ≤ n
flog-low n h = (flog-between n n (le_refl n) h).0

pub flog-high : (n : ℕ) → 1 ≤ n → n < 2 ^ (flog n + 1)
flog-high n h = rw add-one (flog-between n n (le_refl n) h).1

-- the last of n + 1 bits
pub bits_snoc : (n w : ℕ) → bits (suc n) w ≡ bits n (w / 2) ++ bits 1 (w % 2)
unfolding bits
bits_snoc zero w =
    let e : w / 1 % 2 ≡ w % 2 / 1 % 2 = omega arith in
    ap (λ (x : ℕ). x ∷ []) e
bits_snoc (suc n) w =
    let y : 2 ^ suc n ≡ 2 * 2 ^ n = omega arith in
    let d : w / 2 ^ suc n ≡ w / 2 / 2 ^ n = rw y (sym (div-div-eq-div-mul w 2 (2 ^ n))) in
    rw d (ap (λ (t : List ℕ). w / 2 / 2 ^ n % 2 ∷ t) (bits_snoc n w))

pub bits-last : (n w : ℕ) → bits (n + 1) w ≡ bits n (w / 2) ++ bits 1 (w % 2)
bits-last n w = rw add-one (bits_snoc n w)

-- the n low bits are all that the string of n bits shows
pub bits-low : (n h v : ℕ) → bits n (h * 2 ^ n + v) ≡ bits n v
unfolding bits
bits-low zero h v = refl
bits-low (suc n) h v =
    let q : h * 2 ^ suc n + v ≡ (h * 2) * 2 ^ n + v = let y : 2 ^ suc n ≡ 2 * 2 ^ n = omega arith in rw y (omega arith) in
    let d : ((h * 2) * 2 ^ n + v) / 2 ^ n ≡ h * 2 + v / 2 ^ n = mul-add-div_right (pow_pos n) (h * 2) v in
    rw (q, d, mul-add-mod_self_right h 2 (v / 2 ^ n), bits-low n (h * 2) v)

pub bits_mod : (n v : ℕ) → bits n (v % 2 ^ n) ≡ bits n v
bits_mod n v = sym (bits-low n (v / 2 ^ n) (v % 2 ^ n)) ∙ rw (pow-split v n)
