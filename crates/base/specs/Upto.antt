-- Bounds on f32 sums: the sum of a number from 0 to j and one from 0 to k is a number from 0 to j + k, up to 2^24; so sums stay finite.
use Rattle.std.proofs.Common.{true≢false, sym, ◌∙◌, ap, inl, inr, ⊎_elim, le_of_mul-le-mul_right, mul_right_comm, mul_comm, mul_assoc, mul-le-mul_right, le_of_eq, le_trans, mul-one, one-mul, mul-pos, zero-mul, add-mul, le_of_lt, add-le-add, eq-zero-or-pos, arith, le-ltb, ltb-false, ne_eqb, lit<, lit≤, ltb→lt, eqb→eq}
use Rattle.std.specs.Prelude.{Bool, true, false, ◌&&◌, ◌||◌, cond, ◌≡◌, refl, ◌⊎◌, ℕ, suc, ◌+◌, ◌-◌, ◌*◌, ◌<◌, ◌≤◌, ◌^◌, T, ltb, eqb, ℤ, pos, Float}
use Rattle.std.specs.Float.{nan, inf, fin, Format, binary32}
use Rattle.std.specs.Float.Ieee.{add, div, sum, round, units, odd, le, lt, eq, up, down, prec, emax, low, of_int, of_bits}
use Rattle.std.specs.Float.Ieee.Exact.{HasValue, odd_sign}
use Rattle.std.specs.Float.Ieee.Fits.{round_is, up_pos, down_pos}
use Rattle.std.specs.Float.Ieee.Back.{round_whole}
use Rattle.std.specs.Float.Ieee.Order.{round_mono}
use Rattle.std.specs.Float.Ieee.Scale.{round_same}

-- the whole number n as an f32
abbrev pub number : ℕ → Float
number n = of_int binary32 (pos n)

-- the literals 0.0, 1.0 and 64.0
pub literal_0 : of_bits binary32 0 ≡ number 0
unfolding of_bits of_int
literal_0 = refl

pub literal_1 : of_bits binary32 0x3f80_0000 ≡ number 1
unfolding of_bits of_int
literal_1 = refl

pub literal_64 : of_bits binary32 0x4280_0000 ≡ number 64
unfolding of_bits of_int
literal_64 = refl

-- x is a number from 0 to k. A zero may have either sign.
unfoldable pub Upto : ℕ → Float → Type 0
Upto k nan = ⊥
Upto k (inf s) = ⊥
Upto k (fin s m e) = (s ≡ true → m ≡ 0) × (m * up e ≤ k * down e)

-- ---- the sign of a rounded value

abbrev Signed : Bool → Float → Type 0
Signed s nan = ⊥
Signed s (inf t) = t ≡ s
Signed s (fin t m e) = t ≡ s

signed_of : (x : Float) (s : Bool) (a c : ℕ) → HasValue x s a c → Signed s x
signed_of nan s a c h = h
signed_of (inf t) s a c h = absurd h
signed_of (fin t m e) s a c h = h.0

units_signed : (f : Format) (s : Bool) (q k : ℕ) → Signed s (units f s q k)
unfolding units
units_signed f s q k = go (ltb (q * 2 ^ k) (2 ^ (low f + suc (emax f))))
  where
    go : (b : Bool) → Signed s (cond b (odd (suc (prec f)) s q k (low f)) (inf s))
    go true = signed_of (odd (suc (prec f)) s q k (low f)) s (q * 2 ^ k) (2 ^ low f) (odd_sign (suc (prec f)) s q k (low f))
    go false = refl

round_signed : (f : Format) (s : Bool) (a c : ℕ) → Signed s (round f s a c)
round_signed f s a c = rw (round_is f s a c) (units_signed f s _ _)

-- ---- what is at most a whole number

or_split : (a b : Bool) → T (a || b) → T a ⊎ T b
or_split true b t = inl tt
or_split false b t = inr t

and_left : (a b : Bool) → T (a && b) → T a
and_left true b t = tt
and_left false b t = absurd t

cross : (a b : ℕ) (x : Bool) → T (ltb a b || eqb a b && x) → a ≤ b
cross a b x t = ⊎_elim (λ h. le_of_lt (ltb→lt a b h)) (λ h. le_of_eq (eqb→eq a b (and_left (eqb a b) x h))) (or_split (ltb a b) (eqb a b && x) t)

cancel : (x y de dd k : ℕ) → 0 < dd → y * 1 ≡ k * dd → x * dd ≤ y * de → x ≤ k * de
cancel x y de dd k D e h =
    le_of_mul-le-mul_right (le_trans h (le_of_eq (ap (λ (z : ℕ). z * de) (sym (mul-one y) ∙ e) ∙ mul_right_comm k dd de))) D

under : (x y : Float) (k : ℕ) → Signed false x → HasValue y false k 1 → T (le x y) → Upto k x
unfolding le lt eq Upto
under nan y k s v t = absurd s
under (inf s) nan k g v t = absurd v
under (inf s) (inf u) k g v t = absurd v
under (inf true) (fin u n d) k g v t = absurd (true≢false g)
under (inf false) (fin u n d) k g v t = absurd t
under (fin s m e) nan k g v t = absurd v
under (fin s m e) (inf u) k g v t = absurd v
under (fin true m e) (fin u n d) k g v t = absurd (true≢false g)
under (fin false m e) (fin true n d) k g v t = absurd (true≢false v.0)
under (fin false m e) (fin false n d) k g v t =
    ((λ p. absurd (true≢false (sym p))), cancel (m * up e) (n * up d) (down e) (down d) k (down_pos d) v.1 (cross (m * up e * down d) (n * up d * down e) _ t))

-- a fraction that is at most k rounds to a number that is
round_upto : (a c k : ℕ) → 0 < c → k ≤ 16777216 → a ≤ k * c → Upto k (round binary32 false a c)
round_upto a c k C K h =
    under (round binary32 false a c) (round binary32 false k 1) k (round_signed binary32 false a c) (round_whole binary32 false k K)
    (round_mono binary32 a c k 1 C (lit< tt) (le_trans (le_of_eq (mul-one a)) h))

zero_at : (b : Bool) (k : ℕ) → Upto k (round binary32 b 0 1)
unfolding round Upto
zero_at true k = ((λ p. refl), omega arith)
zero_at false k = ((λ p. refl), omega arith)

zero_upto : (s : Bool) (c k : ℕ) → 0 < c → Upto k (round binary32 s 0 c)
zero_upto s c k C = rw (round_same binary32 s 0 c 0 1 C (lit< tt) (zero-mul 1 ∙ sym (zero-mul c))) (zero_at s k)

-- ---- the sum

sum_upto : (s t : Bool) (a b c j k : ℕ) → 0 < c → j + k ≤ 16777216 → (s ≡ true → a ≡ 0) → (t ≡ true → b ≡ 0) → a ≤ j * c → b ≤ k * c
    → Upto (j + k) (sum binary32 s a t b c)
unfolding sum
sum_upto false false a b c j k C K p q A B = round_upto (a + b) c (j + k) C K (rw add-mul (add-le-add A B))
sum_upto true true a b c j k C K p q A B = rw (p refl, q refl) (zero_upto true c (j + k) C)
sum_upto false true a b c j k C K p q A B =
    rw (q refl) (rw (le-ltb a 0 (omega arith)) (round_upto (a - 0) c (j + k) C K (rw add-mul (omega arith))))
sum_upto true false a b c j k C K p q A B = rw (p refl) (go (ltb 0 b) refl)
  where
    go : (x : Bool) → ltb 0 b ≡ x → Upto (j + k) (cond x (round binary32 false (b - 0) c) (round binary32 (true && ltb b 0) (0 - b) c))
    go true e = round_upto (b - 0) c (j + k) C K (rw add-mul (omega arith))
    go false e = let z : b ≡ 0 = omega (arith, ltb-false 0 b e) in rw z (zero_upto false c (j + k) C)

pub add_upto : (j k : ℕ) (x y : Float) → j + k ≤ 16777216 → Upto j x → Upto k y → Upto (j + k) (add binary32 x y)
unfolding add Upto
add_upto j k nan y K h g = absurd h
add_upto j k (inf s) y K h g = absurd h
add_upto j k (fin s m e) nan K h g = absurd g
add_upto j k (fin s m e) (inf t) K h g = absurd g
add_upto j k (fin s m e) (fin t n d) K h g =
    sum_upto s t (m * up e * down d) (n * up d * down e) (down e * down d) j k (mul-pos (down_pos e) (down_pos d)) K
    (λ z. rw (h.0 z, zero-mul, zero-mul)) (λ z. rw (g.0 z, zero-mul, zero-mul))
    (le_trans (mul-le-mul_right (down d) h.1) (le_of_eq (mul_assoc j (down e) (down d))))
    (le_trans (mul-le-mul_right (down e) g.1) (le_of_eq (mul_assoc k (down d) (down e) ∙ ap (λ (z : ℕ). k * z) (mul_comm (down d) (down e)))))

-- what is a number from 0 to k is below the infinity
pub below_infinity : (k : ℕ) (x : Float) → Upto k x → lt x (inf false) ≡ true
unfolding lt Upto
below_infinity k nan h = absurd h
below_infinity k (inf s) h = absurd h
below_infinity k (fin s m e) h = refl

-- what is below anything is below the infinity
pub below-any : (x y : Float) → lt x y ≡ true → lt x (inf false) ≡ true
unfolding lt
below-any nan y h = absurd (true≢false (sym h))
below-any (inf true) y h = refl
below-any (inf false) nan h = absurd (true≢false (sym h))
below-any (inf false) (inf t) h = absurd (true≢false (sym h))
below-any (inf false) (fin t n d) h = absurd (true≢false (sym h))
below-any (fin s m e) y h = refl

pub weaken : (j k : ℕ) (x : Float) → j ≤ k → Upto j x → Upto k x
unfolding Upto
weaken j k nan l h = absurd h
weaken j k (inf s) l h = absurd h
weaken j k (fin s m e) l h = (h.0, le_trans h.1 (mul-le-mul_right (down e) l))

pub number_upto : (n : ℕ) → n ≤ 16777216 → Upto n (number n)
unfolding of_int
number_upto n K = round_upto n 1 n (lit< tt) K (le_of_eq (sym (mul-one n)))

no_part : (m : ℕ) (e : ℤ) → 0 * down e ≡ m * up e * 1 → m ≡ 0
no_part m e h = ⊎_elim (λ z. z) (λ l. absurd (omega (arith, mul-pos l (up_pos e), zero-mul (down e), mul-one (m * up e)))) (eq-zero-or-pos m)

-- what is at least 0.0 and at most 64.0 is a number from 0 to 64
pub within_upto : (x : Float) → T (le (number 0) x) → T (le x (number 64)) → Upto 64 x
unfolding le lt eq of_int Upto
within_upto nan p q = absurd p
within_upto (inf true) p q = absurd p
within_upto (inf false) p q = absurd q
within_upto (fin true m e) p q =
    let z : m ≡ 0 = no_part m e (eqb→eq (0 * down e) (m * up e * 1) (and_left (eqb (0 * down e) (m * up e * 1)) _ p)) in
    ((λ w. z), rw (z, zero-mul) (omega arith))
within_upto (fin false m e) p q = ((λ z. absurd (true≢false (sym z))), le_trans (le_of_eq (sym (mul-one (m * up e)))) (cross (m * up e * 1) (64 * down e) _ q))

-- ---- a part of one

share : (x y : Float) (n : ℕ) → 1 ≤ n → HasValue x false 1 1 → HasValue y false n 1 → Upto 1 (div binary32 x y)
unfolding div
share nan y n h v w = absurd v
share (inf s) y n h v w = absurd v
share (fin s m e) nan n h v w = absurd w
share (fin s m e) (inf t) n h v w = absurd w
share (fin s m e) (fin t b d) n h v w =
    let p : m * up e ≡ 1 * down e = sym (mul-one (m * up e)) ∙ v.1 in
    let q : b * up d ≡ n * down d = sym (mul-one (b * up d)) ∙ w.1 in
    let some : 0 < b * up d * down e = rw q (mul-pos (mul-pos h (down_pos d)) (down_pos e)) in
    let o : b ≡ 0 → ⊥ = λ (z : b ≡ 0). omega (arith, rw (z, zero-mul, zero-mul) at some) in
    let l : m * up e * down d ≤ 1 * (b * up d * down e) = rw (p, q, one-mul, one-mul, mul_right_comm n (down d) (down e)) (le_trans (le_of_eq (sym (one-mul (down e * down d)))) (rw (mul_assoc n (down e) (down d)) (mul-le-mul_right (down e * down d) h))) in
    rw (v.0, w.0, ne_eqb b 0 o) (round_upto (m * up e * down d) (b * up d * down e) 1 some (lit≤ tt) l)

pub share_upto : (n : ℕ) → 1 ≤ n → n ≤ 16777216 → Upto 1 (div binary32 (number 1) (number n))
unfolding of_int
share_upto n h K = share (round binary32 false 1 1) (round binary32 false n 1) n h (round_whole binary32 false 1 (lit≤ tt)) (round_whole binary32 false n K)
