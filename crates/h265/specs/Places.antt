-- The readers' refusals: 10, 11 and 12 alone; and where they stand: for 10 the list's length, for 11 a bin of the list, and no place past the end.
use Rattle.std.specs.Prelude.{◌≡◌, refl, Bool, ltb, eqb, get_or}
use Rattle.std.proofs.Common.{ap, sym, ◌∙◌}
use Rattle.std.proofs.Math.Bool.{true, false}
use mathlib.Core.List.{List, [], ◌∷◌}
use Prim.Native.Nat.{ℕ, zero, suc, ◌+◌, ◌*◌, ◌-◌, ◌^◌, ◌≤◌, ◌<◌}
use native.Mathlib.Omega.{arith}
use Rattle.std.proofs.Math.ListN.{length}
use borrow.Author.Tests.{ltb-true, ltb-false}
use Rattle.base.specs.Pick.{pick, either}
use Rattle.base.specs.Answer.{Answer, Value, Refused, onward}
use Rattle.base.specs.Codes.{each_at}
use Rattle.h265.specs.Strings.{bit, short, flog, bypass, rice_of, run_class, suffixes}
use Rattle.h265.specs.Parse.{bin_at, marker_at, bits_from, bits_at, ones_from, egk_at, held, tb_at, unary_at, rice_at, count_at, suffix_at, run_at}

abbrev pub Fair : {A : Type 0} → List ℕ → Answer A → Type 0
Fair l (Value a q) = q ≤ length l
Fair l (Refused k q) = (k ≡ 10 → q ≡ length l) × (k ≡ 11 → q < length l) × (q ≤ length l) × (10 ≤ k) × (k ≤ 12)

module _ (l : List ℕ) where
  pub fair_12 : (q : ℕ) → q ≤ length l → (◌≡◌ {A = ℕ} 12 10 → q ≡ length l) × (◌≡◌ {A = ℕ} 12 11 → q < length l) × (q ≤ length l) × (10 ≤ 12) × (12 ≤ 12)
  fair_12 q h = ((λ e. absurd (omega arith)), (λ e. absurd (omega arith)), h, omega arith, omega arith)

  pub fair-onward : {A B : Type 0} (g : Answer A) (f : A → ℕ → Answer B) → Fair l g → ((a : A) (q : ℕ) → q ≤ length l → Fair l (f a q)) → Fair l (onward g f)
  fair-onward (Value a q) f h k = k a q h
  fair-onward (Refused n q) f h k = h

  pub fair-pick : {A : Type 0} (t : Bool) (a b : Answer A) → Fair l a → Fair l b → Fair l (pick t a b)
  fair-pick true a b x y = x
  fair-pick false a b x y = y

  pub fair_bin : (c p : ℕ) → p ≤ length l → Fair l (bin_at c l p)
  unfolding bin_at
  fair_bin c p h =
      either (ltb p (length l))
      (λ t.
      let o : p < length l = ltb-true p (length l) t in
      rw t (fair-pick (eqb (get_or l p 0) (c * 2 + 1)) (Value true (p + 1)) _ (omega arith) (fair-pick (eqb (get_or l p 0) (c * 2)) (Value false (p + 1)) (Refused 11 p) (omega arith) ((λ e. absurd (omega arith)), (λ e. o), h, omega arith, omega arith))))
      (λ t.
      let o : length l ≤ p = ltb-false p (length l) t in
      rw t ((λ e. omega arith), (λ e. absurd (omega arith)), h, omega arith, omega arith))

  pub fair-marker : (p : ℕ) → p ≤ length l → Fair l (marker_at l p)
  unfolding marker_at
  fair-marker p h =
      either (ltb p (length l))
      (λ t.
      let o : p < length l = ltb-true p (length l) t in
      rw t (fair-pick (eqb (get_or l p 0) 22) (Value tt (p + 1)) (Refused 11 p) (omega arith) ((λ e. absurd (omega arith)), (λ e. o), h, omega arith, omega arith)))
      (λ t.
      let o : length l ≤ p = ltb-false p (length l) t in
      rw t ((λ e. omega arith), (λ e. absurd (omega arith)), h, omega arith, omega arith))

  pub fair-bits : (n a p : ℕ) → p ≤ length l → Fair l (bits_from n a l p)
  unfolding bits_from
  fair-bits zero a p h = h
  fair-bits (suc n) a p h = fair-onward (bin_at 0 l p) _ (fair_bin 0 p h) (λ b q o. fair-bits n (a * 2 + bit b) q o)

  fair-tail : (k a q : ℕ) → q ≤ length l → Fair l (onward (bits_at k l q) (λ v r. Value (a + v) r))
  fair-tail k a q h = fair-onward (bits_at k l q) _ (fair-bits k 0 q h) (λ v r o. o)

  pub fair-ones : (m s k a p : ℕ) → s ≤ length l → p ≤ length l → Fair l (ones_from m s k a l p)
  unfolding ones_from
  fair-ones zero s k a p i h = fair-onward (bin_at 0 l p) _ (fair_bin 0 p h) (λ b q o. fair-pick b (Refused 12 s) _ (fair_12 s i) (fair-tail k a q o))
  fair-ones (suc m) s k a p i h = fair-onward (bin_at 0 l p) _ (fair_bin 0 p h) (λ b q o. fair-pick b _ _ (fair-ones m s (suc k) (a + 2 ^ k) q i o) (fair-tail k a q o))

  pub fair-egk : (k p : ℕ) → p ≤ length l → Fair l (egk_at k l p)
  unfolding egk_at
  fair-egk k p h = fair-ones 16 p k 0 p h h

  pub fair-held : (s top : ℕ) (g : Answer ℕ) → s ≤ length l → Fair l g → Fair l (held s top g)
  unfolding held
  fair-held s top (Value v q) i h = fair-pick (ltb top v) (Refused 12 s) (Value v q) (fair_12 s i) h
  fair-held s top (Refused k q) i h = h

  pub fair-tb : (n p : ℕ) → p ≤ length l → Fair l (tb_at n l p)
  unfolding tb_at
  fair-tb n p h = fair-onward (bits_at (flog n) l p) _ (fair-bits (flog n) 0 p h) (λ x q o. fair-pick (ltb x (short n)) (Value x q) _ o (fair-onward (bits_at 1 l q) _ (fair-bits 1 0 q o) (λ b r u. u)))

  pub fair-unary : (c : ℕ → ℕ) (i m p : ℕ) → p ≤ length l → Fair l (unary_at c i m l p)
  unfolding unary_at
  fair-unary c i zero p h = h
  fair-unary c i (suc m) p h = fair-onward (bin_at (c i) l p) _ (fair_bin (c i) p h) (λ b q o. fair-pick b _ (Value 0 q) (fair-onward (unary_at c (suc i) m l q) _ (fair-unary c (suc i) m q o) (λ v r u. u)) o)

  pub fair-count : (m p : ℕ) → p ≤ length l → Fair l (count_at m l p)
  unfolding count_at rice_at
  fair-count m p h =
      fair-onward (unary_at bypass 0 4 l p) _ (fair-unary bypass 0 4 p h) (λ v q o.
      fair-pick (ltb v 4) _ _
      (fair-onward (bits_at (rice_of m) l q) _ (fair-bits (rice_of m) 0 q o) (λ w t u. u))
      (fair-onward (ones_from 16 p (rice_of m + 1) 0 l q) _ (fair-ones 16 p (rice_of m + 1) 0 q h o) (λ w t u. u)))

  pub fair_suffix : (longest k p : ℕ) → p ≤ length l → Fair l (suffix_at longest k l p)
  unfolding suffix_at
  fair_suffix longest zero p h = h
  fair_suffix longest (suc k) p h = fair-onward (tb_at (suffixes longest k) l p) _ (fair-tb (suffixes longest k) p h) (λ v q o. o)

  pub fair_run : (longest : ℕ) (above : Bool) (sent p : ℕ) → p ≤ length l → Fair l (run_at longest above sent l p)
  unfolding run_at
  fair_run longest above sent p h =
      fair-pick (eqb longest 0) (Value 0 p) _ h
      (fair-onward (unary_at (run_class above sent) 0 (flog longest + 1) l p) _ (fair-unary (run_class above sent) 0 (flog longest + 1) p h) (λ k q o. fair_suffix longest k q o))

  pub fair-each : {X A : Type 0} (read : X → List ℕ → ℕ → Answer A) → ((x : X) (p : ℕ) → p ≤ length l → Fair l (read x l p)) → (xs : List X) (p : ℕ) → p ≤ length l → Fair l (each_at read xs l p)
  unfolding each_at
  fair-each read f [] p h = h
  fair-each read f (x ∷ xs) p h = fair-onward (read x l p) _ (f x p h) (λ a q o. fair-onward (each_at read xs l q) _ (fair-each read f xs q o) (λ vs t u. u))
