-- What the layout's test leaves, and that the array holds the entries.
use Rattle.std.specs.Prelude.{◌≡◌, refl, true, List, ℕ, zero, suc, ◌+◌, ◌*◌, ◌≤◌, ◌<◌, leb, eqb, length, get_or, replicate}
use Rattle.std.proofs.Common.{ap, sym, ◌∙◌, arith, eqb-true}
use Rattle.std.proofs.lemmas.List.{length-replicate}
use Rattle.base.specs.Cells.{laid_in, laid-length}
use Rattle.base.specs.Tests.{both}
use Rattle.model.specs.Domain.{no_color}
use Rattle.layout.specs.Layout.{lossless_of, count_of, entries_from, bin_count_of, bins_from, laid_out, entry_at, entries_at, predictor_of, array_of}

-- the nine numbers stand within the file, and so do the bins
within : (l : List ℕ) → laid_out l ≡ true → (36 ≤ length l) × (bins_from l ≤ length l)
unfolding laid_out
within l h =
    let a = both (leb (length l) 65536) _ h in
    let b = both (leb (lossless_of l) 1) _ a.1 in
    let c = both (eqb (entries_from l) 36) _ b.1 in
    let d = both (eqb (bins_from l) (36 + 6 * count_of l)) _ c.1 in
    let e = eqb-true (bins_from l) (36 + 6 * count_of l) d.0 in
    let n = eqb-true (length l) (bins_from l + bin_count_of l) (both (eqb (length l) (bins_from l + bin_count_of l)) true d.1).0 in
    (omega arith, omega arith)

pub header_within : (l : List ℕ) → laid_out l ≡ true → 36 ≤ length l
header_within l h = (within l h).0

pub bins_within : (l : List ℕ) → laid_out l ≡ true → bins_from l ≤ length l
bins_within l h = (within l h).1

-- ---- entries

length-entries : (l : List ℕ) (p k : ℕ) → length (entries_at l p k) ≡ k
unfolding entries_at
length-entries l p zero = refl
length-entries l p (suc k) = ap suc (length-entries l (p + 6) k)

entries-at : (l : List ℕ) (p k i : ℕ) → i < k → get_or (entries_at l p k) i no_color ≡ entry_at l (p + 6 * i)
unfolding entries_at
entries-at l p zero i h = absurd (omega arith)
entries-at l p (suc k) zero h = let e : p ≡ p + 6 * 0 = omega arith in ap (entry_at l) e
entries-at l p (suc k) (suc i) h = let e : p + 6 + 6 * i ≡ p + 6 * suc i = omega arith in entries-at l (p + 6) k i (omega arith) ∙ ap (entry_at l) e

-- the array has the predictor's size, and its entries as far as it goes
pub array_length : (l : List ℕ) → length (array_of l).entries ≡ 128
unfolding array_of
array_length l = laid-length (λ (i : ℕ). entry_at l (36 + 6 * i)) (replicate 128 no_color) 0 128 ∙ length-replicate 128 no_color

pub entries-length : (l : List ℕ) → length (predictor_of l).entries ≡ (predictor_of l).size
unfolding predictor_of
entries-length l = length-entries l 36 (count_of l)

pub array_size : (l : List ℕ) → (array_of l).size ≡ (predictor_of l).size
unfolding array_of predictor_of
array_size l = refl

pub array_entries : (l : List ℕ) (i : ℕ) → i < (array_of l).size → i < 128 → get_or (array_of l).entries i no_color ≡ get_or (predictor_of l).entries i no_color
unfolding array_of predictor_of
array_entries l i h k =
    laid_in (λ (j : ℕ). entry_at l (36 + 6 * j)) (replicate 128 no_color) 0 128 i no_color (omega arith) (omega arith) (omega (arith, length-replicate 128 no_color))
    ∙ sym (entries-at l 36 (count_of l) i h)
