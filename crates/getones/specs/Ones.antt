-- An Exp-Golomb prefix as one unary read and then one fixed read, and what was read before it as a number added.
use Rattle.std.specs.Prelude.{◌≡◌, Bool, List, ltb}
use Rattle.std.proofs.Math.Path.{refl}
use Rattle.std.proofs.Common.{ap, sym, ◌∙◌, add-zero, pow_mono, lt-ltb, le-ltb, ltb-true, ltb-false}
use Rattle.std.proofs.Math.Bool.{true, false}
use Prim.Native.Nat.{ℕ, zero, suc, ◌+◌, ◌-◌, ◌^◌, ◌≤◌}
use native.Mathlib.Omega.{arith}
use Rattle.base.specs.Pick.{pick, either}
use Rattle.base.specs.Answer.{Answer, Value, Refused, onward}
use Rattle.h265.specs.Strings.{bypass}
use Rattle.h265.specs.Parse.{bin_at, bits_at, unary_at, ones_from}
use Rattle.h265.specs.Turns.{raise, raise-is}

less_suc : (m c : ℕ) → ltb (suc m) (suc c) ≡ ltb m c
less_suc m c =
    either (ltb m c)
    (λ t. rw t (lt-ltb (suc m) (suc c) (omega (arith, ltb-true m c t))))
    (λ t. rw t (le-ltb (suc m) (suc c) (omega (arith, ltb-false m c t))))

-- k bits, added to a
abbrev tail : ℕ → ℕ → List ℕ → ℕ → Answer ℕ
tail k a l q = onward (bits_at k l q) (λ v r. Value (a + v) r)

module _ (s : ℕ) (l : List ℕ) where
  -- after c ones of which m are in range
  abbrev after : ℕ → ℕ → ℕ → ℕ → ℕ → Answer ℕ
  after m k a c q = pick (ltb m c) (Refused 12 s) (raise (a + (2 ^ (k + c) - 2 ^ k)) (bits_at (k + c) l q))

  none : (m k a q : ℕ) → tail k a l q ≡ after m k a 0 q
  none m k a q =
      let e : a + (2 ^ k - 2 ^ k) ≡ a = omega arith in
      rw (add-zero k, le-ltb m 0 (omega arith), e) (sym (raise-is a (bits_at k l q)))

  one : (m k a c q : ℕ) → after m (suc k) (a + 2 ^ k) c q ≡ after (suc m) k a (suc c) q
  one m k a c q =
      let e : k + suc c ≡ suc k + c = omega arith in
      let w : 2 ^ suc k ≤ 2 ^ (suc k + c) = pow_mono {i = suc k} {j = suc k + c} (omega arith) in
      let f : a + 2 ^ k + (2 ^ (suc k + c) - 2 ^ suc k) ≡ a + (2 ^ (suc k + c) - 2 ^ k) = omega arith in
      rw (e, f, less_suc m c)

  pub ones-unary : (m i k a p : ℕ) → ones_from m s k a l p ≡ onward (unary_at bypass i (suc m) l p) (after m k a)
  unfolding ones_from unary_at
  ones-unary zero i k a p = last (bin_at 0 l p)
    where
      last : (x : Answer Bool) → onward x (λ b q. pick b (Refused 12 s) (tail k a l q)) ≡ onward (onward x (λ b q. pick b (Value 1 q) (Value 0 q))) (after 0 k a)
      last (Value true q) = refl
      last (Value false q) = none 0 k a q
      last (Refused n q) = refl
  ones-unary (suc m) i k a p = turn (λ q. ones-unary m (suc i) (suc k) (a + 2 ^ k) q) (bin_at 0 l p)
    where
      up : (x : Answer ℕ) → onward x (after m (suc k) (a + 2 ^ k)) ≡ onward (onward x (λ v r. Value (suc v) r)) (after (suc m) k a)
      up (Value c q) = one m k a c q
      up (Refused n q) = refl

      turn : ((q : ℕ) → ones_from m s (suc k) (a + 2 ^ k) l q ≡ onward (unary_at bypass (suc i) (suc m) l q) (after m (suc k) (a + 2 ^ k))) → (x : Answer Bool) → onward x (λ b q. pick b (ones_from m s (suc k) (a + 2 ^ k) l q) (tail k a l q)) ≡ onward (onward x (λ b q. pick b (onward (unary_at bypass (suc i) (suc m) l q) (λ v r. Value (suc v) r)) (Value 0 q))) (after (suc m) k a)
      turn h (Value true q) = h q ∙ up (unary_at bypass (suc i) (suc m) l q)
      turn h (Value false q) = none (suc m) k a q
      turn h (Refused n q) = refl

  add : (d a : ℕ) (x : Answer ℕ) → onward (onward x (λ v r. Value (a + v) r)) (λ v t. Value (d + v) t) ≡ onward x (λ v r. Value (d + a + v) r)
  add d a (Value v q) = ap (λ (y : ℕ). Value y q) (omega arith)
  add d a (Refused n q) = refl

  -- what is read before the value may as well be added at its end
  pub ones-raise : (d m k a p : ℕ) → onward (ones_from m s k a l p) (λ v t. Value (d + v) t) ≡ ones_from m s k (d + a) l p
  unfolding ones_from
  ones-raise d zero k a p = last (bin_at 0 l p)
    where
      last : (x : Answer Bool) → onward (onward x (λ b q. pick b (Refused 12 s) (tail k a l q))) (λ v t. Value (d + v) t) ≡ onward x (λ b q. pick b (Refused 12 s) (tail k (d + a) l q))
      last (Value true q) = refl
      last (Value false q) = add d a (bits_at k l q)
      last (Refused n q) = refl
  ones-raise d (suc m) k a p = last (λ q. ones-raise d m (suc k) (a + 2 ^ k) q) (bin_at 0 l p)
    where
      last : ((q : ℕ) → onward (ones_from m s (suc k) (a + 2 ^ k) l q) (λ v t. Value (d + v) t) ≡ ones_from m s (suc k) (d + (a + 2 ^ k)) l q) → (x : Answer Bool) → onward (onward x (λ b q. pick b (ones_from m s (suc k) (a + 2 ^ k) l q) (tail k a l q))) (λ v t. Value (d + v) t) ≡ onward x (λ b q. pick b (ones_from m s (suc k) (d + a + 2 ^ k) l q) (tail k (d + a) l q))
      last h (Value true q) =
          let e : d + (a + 2 ^ k) ≡ d + a + 2 ^ k = omega arith in
          rw (← e) (h q)
      last h (Value false q) = add d a (bits_at k l q)
      last h (Refused n q) = refl
