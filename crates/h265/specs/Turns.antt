-- One turn of each reader's definition, as a function's proof wants it: from what the code saw to what the definition says.
use Rattle.std.specs.Prelude.{◌≡◌, Bool, true, false, List, ℕ, zero, suc, ◌+◌, ◌*◌, ◌^◌, ◌≤◌, ◌<◌, length}
use Rattle.std.proofs.Math.Path.{refl, ap}
use Rattle.std.proofs.Common.{sym, ◌∙◌}
use Rattle.std.proofs.Math.ListN.{get_or}
use borrow.Author.Tests.{lt-ltb, le-ltb, eq-eqb, ne_eqb}
use Rattle.std.proofs.Math.Numerals.{add-one}
use native.Mathlib.Omega.{arith}
use Rattle.base.specs.Pick.{pick}
use Rattle.base.specs.Answer.{Answer, Value, Refused, onward}
use Rattle.h265.specs.Strings.{bit, run_class, suffixes}
use Rattle.h265.specs.Parse.{bin_at, bits_from, unary_at, tb_at, suffix_at}

module _ (c : ℕ) (l : List ℕ) (p : ℕ) where
  pub bin_ended : length l ≤ p → Refused 10 p ≡ bin_at c l p
  unfolding bin_at
  bin_ended h = rw (le-ltb p (length l) h)

  pub bin_one : p < length l → get_or l p 0 ≡ c * 2 + 1 → Value true (p + 1) ≡ bin_at c l p
  unfolding bin_at
  bin_one h e = rw (lt-ltb p (length l) h, eq-eqb (get_or l p 0) (c * 2 + 1) e)

  pub bin_zero : p < length l → get_or l p 0 ≡ c * 2 → Value false (p + 1) ≡ bin_at c l p
  unfolding bin_at
  bin_zero h e =
      let o : get_or l p 0 ≡ c * 2 + 1 → ⊥ = λ z. omega arith in
      rw (lt-ltb p (length l) h, ne_eqb (get_or l p 0) (c * 2 + 1) o, eq-eqb (get_or l p 0) (c * 2) e)

  pub bin_wrong : p < length l → (get_or l p 0 ≡ c * 2 + 1 → ⊥) → (get_or l p 0 ≡ c * 2 → ⊥) → Refused 11 p ≡ bin_at c l p
  unfolding bin_at
  bin_wrong h o z = rw (lt-ltb p (length l) h, ne_eqb (get_or l p 0) (c * 2 + 1) o, ne_eqb (get_or l p 0) (c * 2) z)

-- i bits are left, j after this one
module _ (i j a : ℕ) (l : List ℕ) (p : ℕ) (e : i ≡ suc j) where
  pub bits-turn : (b : Bool) (q : ℕ) → bin_at 0 l p ≡ Value b q → bits_from i a l p ≡ bits_from j (a * 2 + bit b) l q
  unfolding bits_from
  bits-turn b q h = rw (e, h)

  pub bits-refused : (k q : ℕ) → bin_at 0 l p ≡ Refused k q → bits_from i a l p ≡ Refused k q
  unfolding bits_from
  bits-refused k q h = rw (e, h)

pub bits-end : (i a : ℕ) (l : List ℕ) (p : ℕ) → i ≡ 0 → Value a p ≡ bits_from i a l p
unfolding bits_from
bits-end i a l p e = rw e

-- so much was read before
unfoldable pub raise : ℕ → Answer ℕ → Answer ℕ
raise k (Value v q) = Value (k + v) q
raise k (Refused n q) = Refused n q

pub raise-is : (k : ℕ) (a : Answer ℕ) → raise k a ≡ onward a (λ v q. Value (k + v) q)
unfolding raise
raise-is k (Value v q) = refl
raise-is k (Refused n q) = refl

raise-raise : (k : ℕ) (a : Answer ℕ) → raise (k + 1) a ≡ raise k (raise 1 a)
unfolding raise
raise-raise k (Value v q) = ap (λ (x : ℕ). Value x q) (omega arith)
raise-raise k (Refused n q) = refl

-- m bins are possible still, j after this one, and k ones were read
module _ (c : ℕ → ℕ) (i m j k : ℕ) (l : List ℕ) (p : ℕ) (e : m ≡ suc j) where
  pub unary-one : (q : ℕ) → bin_at (c i) l p ≡ Value true q → raise k (unary_at c i m l p) ≡ raise (k + 1) (unary_at c (i + 1) j l q)
  unfolding unary_at raise
  unary-one q h = rw (raise-raise k (unary_at c (i + 1) j l q), e, h, add-one i) (ap (raise k) (one (unary_at c (suc i) j l q)))
    where
      one : (a : Answer ℕ) → onward a (λ v r. Value (suc v) r) ≡ raise 1 a
      one (Value v r) = ap (λ (x : ℕ). Value x r) (omega arith)
      one (Refused n r) = refl

  pub unary_zero : (q : ℕ) → bin_at (c i) l p ≡ Value false q → raise k (unary_at c i m l p) ≡ Value k q
  unfolding unary_at raise
  unary_zero q h = rw (e, h) (ap (λ (x : ℕ). Value x q) (omega arith))

  pub unary-refused : (n q : ℕ) → bin_at (c i) l p ≡ Refused n q → raise k (unary_at c i m l p) ≡ Refused n q
  unfolding unary_at raise
  unary-refused n q h = rw (e, h)

pub unary-end : (c : ℕ → ℕ) (i m k : ℕ) (l : List ℕ) (p : ℕ) → m ≡ 0 → raise k (unary_at c i m l p) ≡ Value k p
unfolding unary_at raise
unary-end c i m k l p e = rw e (ap (λ (x : ℕ). Value x p) (omega arith))

pub raise-none : (a : Answer ℕ) → raise 0 a ≡ a
unfolding raise
raise-none (Value v q) = ap (λ (x : ℕ). Value x q) (omega arith)
raise-none (Refused n q) = refl

-- the class of a run prefix's bin, branch by branch
module _ (above : Bool) (sent i : ℕ) where
  pub class_first : i ≡ 0 → above ≡ true → 8 ≡ run_class above sent i
  unfolding run_class
  class_first e a = rw (e, a)

  pub class_none : i ≡ 0 → above ≡ false → sent ≡ 0 → 3 ≡ run_class above sent i
  unfolding run_class
  class_none e a s = rw (e, a, s)

  pub class_few : i ≡ 0 → above ≡ false → (sent ≡ 0 → ⊥) → sent < 3 → 4 ≡ run_class above sent i
  unfolding run_class
  class_few e a s t = rw (e, a, ne_eqb sent 0 s, lt-ltb sent 3 t)

  pub class_many : i ≡ 0 → above ≡ false → (sent ≡ 0 → ⊥) → 3 ≤ sent → 5 ≡ run_class above sent i
  unfolding run_class
  class_many e a s t = rw (e, a, ne_eqb sent 0 s, le-ltb sent 3 t)

  pub class_two_above : (i ≡ 0 → ⊥) → i < 3 → above ≡ true → 9 ≡ run_class above sent i
  unfolding run_class
  class_two_above e t a = rw (ne_eqb i 0 e, lt-ltb i 3 t, a)

  pub class_two_index : (i ≡ 0 → ⊥) → i < 3 → above ≡ false → 6 ≡ run_class above sent i
  unfolding run_class
  class_two_index e t a = rw (ne_eqb i 0 e, lt-ltb i 3 t, a)

  pub class_four_above : (i ≡ 0 → ⊥) → 3 ≤ i → i < 5 → above ≡ true → 10 ≡ run_class above sent i
  unfolding run_class
  class_four_above e t u a = rw (ne_eqb i 0 e, le-ltb i 3 t, lt-ltb i 5 u, a)

  pub class_four_index : (i ≡ 0 → ⊥) → 3 ≤ i → i < 5 → above ≡ false → 7 ≡ run_class above sent i
  unfolding run_class
  class_four_index e t u a = rw (ne_eqb i 0 e, le-ltb i 3 t, lt-ltb i 5 u, a)

  pub class_rest : (i ≡ 0 → ⊥) → 3 ≤ i → 5 ≤ i → 0 ≡ run_class above sent i
  unfolding run_class
  class_rest e t u = rw (ne_eqb i 0 e, le-ltb i 3 t, le-ltb i 5 u)

-- a run's suffix, none after prefix 0
pub suffix_none : (longest k : ℕ) (l : List ℕ) (p : ℕ) → k ≡ 0 → Value 0 p ≡ suffix_at longest k l p
unfolding suffix_at
suffix_none longest k l p e = rw e

pub suffix_some : (longest k j : ℕ) (l : List ℕ) (p : ℕ) → k ≡ suc j → suffix_at longest k l p ≡ onward (tb_at (suffixes longest j) l p) (λ v q. Value (2 ^ j + v) q)
unfolding suffix_at
suffix_some longest k j l p e = rw e
