-- Lists of any length read and laid, and that a counter laid in lists is read back.
use Rattle.std.specs.Prelude.{◌≡◌, refl, List, [], ◌∷◌, ℕ, suc, ◌+◌, ◌≤◌, ◌<◌, min, length, drop, get_or, set, replicate}
use Rattle.std.proofs.Common.{sym, ◌∙◌, ⊎_elim, add-one, arith, ext_get_or}
use Rattle.std.proofs.lemmas.List.{length-replicate, get_or-replicate}
use Rattle.std.proofs.Math.ListN.{get_or-eq_default}
use Rattle.std.proofs.lemmas.List.Edits.{sets}
use Rattle.std.proofs.Math.Seq.{set_out}
use Rattle.base.specs.Cells.{laid, laid_in, laid-after, laid-length}
use Rattle.base.specs.Pick.{lt_or_le}
use Rattle.colors.specs.declared.ColorIndex.{ColorIndex}
use Rattle.flat.specs.Flat.{number, each}
use Rattle.flat.specs.FlatLaws.{each_by}
use Rattle.layflat.specs.Rest.{rest-next, rest_end}
use Rattle.flatcounter.specs.Counter.{counter_of, marks_of}

-- ---- reading

-- what is not read is 0
out-rest : (f : ℕ → ℕ) (out : List ℕ) (i : ℕ) → i ≤ 256 → out ≡ laid f (replicate 256 0) 0 i → ((j : ℕ) → i ≤ j → j < 256 → f j ≡ 0) → out ≡ each 0 256 f
out-rest f out i k e h =
    let w : length (replicate {A = ℕ} 256 0) ≡ 256 = length-replicate {A = ℕ} 256 0 in
    let a : length (laid f (replicate 256 0) 0 i) ≡ 256 = laid-length f (replicate 256 0) 0 i ∙ w in
    let b : length (laid f (replicate 256 0) 0 256) ≡ 256 = laid-length f (replicate 256 0) 0 256 ∙ w in
    e
    ∙ ext_get_or 0 (laid f (replicate 256 0) 0 i) (laid f (replicate 256 0) 0 256) (a ∙ sym b) (λ j m.
    ⊎_elim (λ (q : j < i). laid_in f (replicate 256 0) 0 i j 0 (omega arith) (omega arith) (omega arith) ∙ sym (laid_in f (replicate 256 0) 0 256 j 0 (omega arith) (omega arith) (omega arith)))
    (λ (q : i ≤ j).
    laid-after f (replicate 256 0) 0 i j 0 (omega arith) ∙ get_or-replicate {A = ℕ} 256 j 0 0 (omega arith) ∙ sym (h j q (omega arith)) ∙ sym (laid_in f (replicate 256 0) 0 256 j 0 (omega arith) (omega arith) (omega arith)))
    (lt_or_le j i))

pub keys_read : (l out : List ℕ) (i n : ℕ) → n ≡ min 256 (length l) → i ≤ n → n ≤ i → out ≡ laid (number l) (replicate 256 0) 0 i → out ≡ each 0 256 (number l)
keys_read l out i n m a b e = out-rest (number l) out i (omega arith) e (λ j p q. get_or-eq_default l 0 {n = j} (omega arith))

pub stamps_read : (l out : List ℕ) (i n : ℕ) → n ≡ min 257 (length l) → i ≤ 256 → n ≤ i + 1 → out ≡ laid (λ j. number l (1 + j)) (replicate 256 0) 0 i → out ≡ each 0 256 (λ j. number l (1 + j))
stamps_read l out i n m a b e = out-rest (λ j. number l (1 + j)) out i a e (λ j p q. get_or-eq_default l 0 {n = 1 + j} (omega arith))

-- ---- laying

-- nothing is laid past the end
pub past_end : (s l : List ℕ) (p : ℕ) → length l ≤ p → sets l p s ≡ l
past_end [] l p h = refl
past_end (a ∷ s) l p h = rw (set_out l p a h) (past_end s l (suc p) (omega arith))

module _ (l whole xs : List ℕ) (p i : ℕ) where
  pub laying_next : i < length xs → sets l p (drop i xs) ≡ whole → sets (set l p (get_or xs i 0)) (p + 1) (drop (i + 1) xs) ≡ whole
  laying_next h e = rw (add-one p) (rw (rest-next xs i 0 h) at e)

  pub laying_end : length xs ≤ i → sets l p (drop i xs) ≡ whole → l ≡ whole
  laying_end h e = rw (rest_end xs i h) at e

-- the last place that the list has
module _ (l whole xs : List ℕ) (i n : ℕ) (w : length xs ≡ 256) where
  pub keys_laid : n ≡ min 256 (length l) → n ≤ i → sets l i (drop i xs) ≡ whole → l ≡ whole
  keys_laid m h e = ⊎_elim (λ (q : i < 256). sym (past_end (drop i xs) l i (omega arith)) ∙ e) (λ (q : 256 ≤ i). laying_end l whole xs i i (omega arith) e) (lt_or_le i 256)

  pub stamps_laid : n ≡ min 257 (length l) → n ≤ i + 1 → sets l (1 + i) (drop i xs) ≡ whole → l ≡ whole
  stamps_laid m h e = ⊎_elim (λ (q : i < 256). sym (past_end (drop i xs) l (1 + i) (omega arith)) ∙ e) (λ (q : 256 ≤ i). laying_end l whole xs (1 + i) i (omega arith) e) (lt_or_le i 256)

pub counter_flat : (c : ColorIndex) → length c.keys ≡ 256 → length c.entry ≡ 256 → length c.stamp ≡ 256 → counter_of c.keys c.entry (marks_of c) ≡ c
unfolding counter_of
counter_flat c k e s =
    let a : each 0 256 (number c.keys) ≡ c.keys = each_by 0 256 _ c.keys k (λ i h. refl) in
    let b : each 0 256 (number c.entry) ≡ c.entry = each_by 0 256 _ c.entry e (λ i h. refl) in
    let d : each 0 256 (λ i. number (marks_of c) (1 + i)) ≡ c.stamp =
    each_by 0 256 _ c.stamp s (λ i h. let z : 1 + i ≡ suc i = omega arith in rw z)
    in
    rw (a, b, d)
