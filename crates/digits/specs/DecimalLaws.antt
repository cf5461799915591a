-- Decimal text: its last digit, what it says when read back, and how long it is.
use Rattle.std.specs.Prelude.{◌≡◌, refl, List, [], ◌∷◌, ◌++◌, ℕ, zero, suc, ◌+◌, ◌*◌, ◌-◌, ◌/◌, ◌%◌, ◌^◌, ◌≤◌, ◌<◌, length, get_or}
use Rattle.std.proofs.Common.{ap, ⊎_elim, le_refl, arith, length-append, lt-ltb, le-ltb}
use Rattle.std.proofs.Math.ListN.{get_or-append}
use Rattle.base.specs.Alls.{all_append}
use Rattle.base.specs.Codes.{All}
use Rattle.base.specs.Pick.{lt_or_le}
use Rattle.digits.specs.Decimal.{decimal_aux, decimal, value_from}

enough : (f g n : ℕ) → n ≤ f → n ≤ g → decimal_aux f n ≡ decimal_aux g n
unfolding decimal_aux
enough zero zero n p q = refl
enough zero (suc g) n p q = let h : n < 10 = omega arith in rw (lt-ltb n 10 h)
enough (suc f) zero n p q = let h : n < 10 = omega arith in rw (lt-ltb n 10 h)
enough (suc f) (suc g) n p q = rw (enough f g (n / 10) (omega arith) (omega arith))

-- one digit
pub decimal-one : (n : ℕ) → n < 10 → decimal n ≡ (48 + n) ∷ []
unfolding decimal decimal_aux
decimal-one zero h = refl
decimal-one (suc n) h = rw (lt-ltb (suc n) 10 h)

-- the last of several
pub decimal-more : (n : ℕ) → 10 ≤ n → decimal n ≡ decimal (n / 10) ++ ((48 + n % 10) ∷ [])
unfolding decimal decimal_aux
decimal-more zero h = absurd (omega arith)
decimal-more (suc n) h = rw (le-ltb (suc n) 10 h) (ap (λ (l : List ℕ). l ++ ((48 + suc n % 10) ∷ [])) (enough n (suc n / 10) (suc n / 10) (omega arith) (le_refl _)))

-- by the number of digits: what holds of one digit, and of a number that has one digit more, holds of all
by_digits : (P : ℕ → Type 0) → ((n : ℕ) → n < 10 → P n) → ((n : ℕ) → 10 ≤ n → P (n / 10) → P n) → (f n : ℕ) → n ≤ f → P n
by_digits P one more zero n h = one n (omega arith)
by_digits P one more (suc f) n h = ⊎_elim (λ (l : n < 10). one n l) (λ (l : 10 ≤ n). more n l (by_digits P one more f (n / 10) (omega arith))) (lt_or_le n 10)

value-one : (k : ℕ) → value_from 0 ((48 + k) ∷ []) ≡ k
unfolding value_from
value-one k = omega arith

value-last : (a d : ℕ) (l : List ℕ) → value_from a (l ++ (d ∷ [])) ≡ value_from a l * 10 + (d - 48)
unfolding value_from
value-last a d [] = refl
value-last a d (x ∷ l) = value-last (a * 10 + (x - 48)) d l

-- the digits say the number
pub decimal-value : (n : ℕ) → value_from 0 (decimal n) ≡ n
decimal-value n = by_digits (λ (m : ℕ). value_from 0 (decimal m) ≡ m) one more n n (le_refl n)
  where
    one : (m : ℕ) → m < 10 → value_from 0 (decimal m) ≡ m
    one m h = rw (decimal-one m h) (value-one m)

    more : (m : ℕ) → 10 ≤ m → value_from 0 (decimal (m / 10)) ≡ m / 10 → value_from 0 (decimal m) ≡ m
    more m h e = rw (decimal-more m h, value-last 0 (48 + m % 10) (decimal (m / 10)), e) (omega arith)

-- they are digits
pub decimal_digits : (n : ℕ) → All (λ d. (48 ≤ d) × (d ≤ 57)) (decimal n)
decimal_digits n = by_digits (λ (m : ℕ). All (λ d. (48 ≤ d) × (d ≤ 57)) (decimal m)) one more n n (le_refl n)
  where
    one : (m : ℕ) → m < 10 → All (λ d. (48 ≤ d) × (d ≤ 57)) (decimal m)
    one m h = rw (decimal-one m h) ((omega arith, omega arith), tt)

    more : (m : ℕ) → 10 ≤ m → All (λ d. (48 ≤ d) × (d ≤ 57)) (decimal (m / 10)) → All (λ d. (48 ≤ d) × (d ≤ 57)) (decimal m)
    more m h a = rw (decimal-more m h) (all_append (λ d. (48 ≤ d) × (d ≤ 57)) (decimal (m / 10)) ((48 + m % 10) ∷ []) a ((omega arith, omega arith), tt))

-- there is one at least, and the first is 0 for the number 0 alone
pub decimal-first : (n : ℕ) → (1 ≤ length (decimal n)) × (1 ≤ n → 49 ≤ get_or (decimal n) 0 0)
decimal-first n = by_digits (λ (m : ℕ). (1 ≤ length (decimal m)) × (1 ≤ m → 49 ≤ get_or (decimal m) 0 0)) one more n n (le_refl n)
  where
    one : (m : ℕ) → m < 10 → (1 ≤ length (decimal m)) × (1 ≤ m → 49 ≤ get_or (decimal m) 0 0)
    one m h = rw (decimal-one m h) (omega arith, λ l. omega arith)

    more : (m : ℕ) → 10 ≤ m → (1 ≤ length (decimal (m / 10))) × (1 ≤ m / 10 → 49 ≤ get_or (decimal (m / 10)) 0 0) → (1 ≤ length (decimal m)) × (1 ≤ m → 49 ≤ get_or (decimal m) 0 0)
    more m h a =
        rw (decimal-more m h) (
          omega (arith, length-append (decimal (m / 10)) ((48 + m % 10) ∷ []), a.0),
          λ l. omega (arith, get_or-append (decimal (m / 10)) ((48 + m % 10) ∷ []) 0 0 a.0, a.1 (omega arith)),
        )

-- a number below 10^k has at most k digits
pub decimal-length : (k n : ℕ) → n < 10 ^ suc k → length (decimal n) ≤ suc k
decimal-length zero n h = let l : n < 10 = omega arith in rw (decimal-one n l) (omega arith)
decimal-length (suc k) n h =
    ⊎_elim
    (λ (l : n < 10). rw (decimal-one n l) (omega arith))
    (λ (l : 10 ≤ n). rw (decimal-more n l) (omega (arith, length-append (decimal (n / 10)) ((48 + n % 10) ∷ []), decimal-length k (n / 10) (omega arith))))
    (lt_or_le n 10)

-- one of 64 bits at most 20: 19 and the last
pub decimal_19 : (n : ℕ) → n < 2 ^ 64 → length (decimal (n / 10)) ≤ 19
decimal_19 n h = decimal-length 18 (n / 10) (omega arith)
