-- The tables' rates are the sums over the runs' bins.
use Rattle.std.specs.Prelude.{◌≡◌, Bool, true, false, List, ◌++◌, ltb, eqb, Float, get_or, length}
use Rattle.std.proofs.Math.Path.{refl}
use Rattle.std.proofs.Common.{ap, sym, ◌∙◌, add-zero, pow_mono, pow_pos, lt-ltb, le-ltb, ltb-true, ltb-false, eqb-true, ne_eqb}
use Prim.Native.Nat.{ℕ, zero, suc, ◌+◌, ◌*◌, ◌-◌, ◌/◌, ◌%◌, ◌^◌, ◌≤◌, ◌<◌}
use native.Mathlib.Omega.{arith}
use Rattle.std.specs.Float.{nan}
use Rattle.std.specs.Float.Ieee.{binary32, add}
use Rattle.std.proofs.lemmas.Bool.{eqb-false}
use Rattle.base.specs.Pick.{pick, either}
use Rattle.base.specs.Cells.{laid, laid_in, laid-before, laid-length}
use Rattle.base.specs.Powers.{pow_next}
use Rattle.base.specs.Upto.{number}
use Rattle.bins.specs.Logarithm.{flog-most, suffixes-all}
use Rattle.h265.specs.Strings.{flog, short, unary, run_class, prefix_of, suffixes}
use Rattle.h265.proofs.RunLaws.{prefix_most}
use Rattle.h265.specs.StringLaws.{length-bits, flog-low, flog-high, flog-is}
use Rattle.rates.specs.declared.RateModel.{RateModel}
use Rattle.rates.specs.Rates.{Part, class_rates, rate_of, sum_of, singly, tb_parts, suffix_parts, run_parts, run_rate}
use Rattle.sums.specs.Sums.{row_of, ones_sum, full_sum, with_bits, short_sum, Sums, tb_sum, suffix_sum, run_from}

module _ (m : RateModel) where
  -- ---- the ones of a prefix

  pub ones-more : (c : ℕ → ℕ) (i k : ℕ) (sum : Float) → ones_sum m c i (k + 1) sum ≡ add binary32 (ones_sum m c i k sum) (rate_of m (c (i + k) * 2 + 1))
  unfolding ones_sum
  ones-more c i zero sum = rw (add-zero i)
  ones-more c i (suc k) sum =
      let e : suc k + 1 ≡ suc (k + 1) = omega arith in
      let f : i + suc k ≡ suc i + k = omega arith in
      rw (e, f) (ones-more c (suc i) k (add binary32 sum (rate_of m (c i * 2 + 1))))

  pub full_more : (above : Bool) (sent k : ℕ) → full_sum m above sent (k + 1) ≡ add binary32 (full_sum m above sent k) (rate_of m (run_class above sent k * 2 + 1))
  unfolding full_sum
  full_more above sent k = let e : 0 + k ≡ k = omega arith in ones-more (run_class above sent) 0 k (number 0) ∙ rw e

  pub full_none : (above : Bool) (sent : ℕ) → number 0 ≡ full_sum m above sent 0
  unfolding full_sum ones_sum
  full_none above sent = refl

  -- a prefix of `ones` of at most `most`, and what follows it
  sum-unary : (c : ℕ → ℕ) (i most ones : ℕ) (sum : Float) (ps : List Part) → ones < most
      → sum_of m sum (singly (unary c i most ones) ++ ps) ≡ sum_of m (add binary32 (ones_sum m c i ones sum) (rate_of m (c (i + ones) * 2))) ps
  unfolding sum_of unary ones_sum
  sum-unary c i zero ones sum ps h = absurd (omega arith)
  sum-unary c i (suc most) zero sum ps h = rw (add-zero i)
  sum-unary c i (suc most) (suc ones) sum ps h = let e : i + suc ones ≡ suc i + ones = omega arith in rw e (sum-unary c (suc i) most ones (add binary32 sum (rate_of m (c i * 2 + 1))) ps (omega arith))

  sum_ones : (c : ℕ → ℕ) (i ones : ℕ) (sum : Float) (ps : List Part) → sum_of m sum (singly (unary c i ones ones) ++ ps) ≡ sum_of m (ones_sum m c i ones sum) ps
  unfolding sum_of unary ones_sum
  sum_ones c i zero sum ps = refl
  sum_ones c i (suc ones) sum ps = sum_ones c (suc i) ones (add binary32 sum (rate_of m (c i * 2 + 1))) ps

  -- ---- the suffix

  bit_rate : (b : ℕ) → b < 2 → rate_of m b ≡ number 1
  unfolding rate_of class_rates
  bit_rate zero h = refl
  bit_rate (suc zero) h = refl
  bit_rate (suc (suc b)) h = absurd (omega arith)

  pub tb-sum : (sum : Float) (n v : ℕ) → sum_of m sum (tb_parts n v) ≡ tb_sum sum n v
  unfolding tb_parts tb_sum sum_of
  tb-sum sum n v =
      either (ltb n 2)
      (λ t. rw t)
      (λ t. either (ltb v (short n))
      (λ u. rw (t, u, length-bits (flog n) v))
      (λ u. let o : (v + short n) % 2 < 2 = omega arith in rw (t, u, length-bits (flog n) ((v + short n) / 2), bit_rate ((v + short n) % 2) o)))

  pub suffix_sum_lem : (sum : Float) (longest more : ℕ) → sum_of m sum (suffix_parts longest more) ≡ suffix_sum sum longest more
  unfolding suffix_parts suffix_sum sum_of
  suffix_sum_lem sum longest zero = refl
  suffix_sum_lem sum longest (suc v) =
      let o : suc v ≡ 0 → ⊥ = λ e. omega arith in
      rw (ne_eqb (suc v) 0 o) (tb-sum sum (suffixes longest (flog (suc v))) (suc v - 2 ^ flog (suc v)))

-- ---- a run

-- a suffix whose values are all there
suffix_bits : (sum : Float) (k v : ℕ) → v < 2 ^ k → tb_sum sum (2 ^ k) v ≡ with_bits (k + 1) sum
unfolding tb_sum with_bits
suffix_bits sum zero v h = refl
suffix_bits sum (suc k) v h =
    let f : flog (2 ^ suc k) ≡ suc k = flog-is (suc k) (2 ^ suc k) (omega arith) (omega (arith, pow_pos (suc k))) in
    let n : 2 ≤ 2 ^ suc k = omega (arith, pow_pos k) in
    let a : v < short (2 ^ suc k) = rw f (omega (arith, pow_next (suc k))) in
    let b : 2 ≤ suc k + 1 = omega arith in
    let e : suc k + 1 - 1 ≡ suc k = omega arith in
    rw (le-ltb (2 ^ suc k) 2 n, lt-ltb v (short (2 ^ suc k)) a, f, le-ltb (suc k + 1) 2 b, e)

suffix_short : (sum : Float) (longest more : ℕ) → 1 ≤ longest → prefix_of more ≤ flog longest → suffix_sum sum longest more ≡ with_bits (prefix_of more) sum
unfolding suffix_sum prefix_of with_bits
suffix_short sum longest zero o h = refl
suffix_short sum longest (suc v) o h =
    let z : suc v ≡ 0 → ⊥ = λ e. omega arith in
    let k : ℕ = flog (suc v) in
    let a : 2 ^ (flog (suc v) + 1) ≤ 2 ^ flog longest = pow_mono {i = flog (suc v) + 1} {j = flog longest} h in
    let b : 2 * 2 ^ flog (suc v) ≤ longest = omega (arith, flog-low longest o, pow_next (flog (suc v))) in
    let lo : 2 ^ flog (suc v) ≤ suc v = flog-low (suc v) (omega arith) in
    let c : suc v - 2 ^ flog (suc v) < 2 ^ flog (suc v) = omega (arith, flog-high (suc v) (omega arith), pow_next (flog (suc v))) in
    rw (ne_eqb (suc v) 0 z, sym (suffixes-all longest (2 ^ flog (suc v)) (flog (suc v)) refl b)) (suffix_bits sum (flog (suc v)) (suc v - 2 ^ flog (suc v)) c)

module _ (m : RateModel) (longest : ℕ) (above : Bool) (sent more : ℕ) where
  pub rate_none : longest ≡ 0 → run_rate m longest above sent more ≡ number 0
  unfolding run_rate run_parts sum_of
  rate_none e = rw e

  pub rate_short : 1 ≤ longest → prefix_of more ≤ flog longest → run_rate m longest above sent more ≡ short_sum m above sent (prefix_of more)
  unfolding run_rate run_parts short_sum full_sum
  rate_short o h =
      let z : longest ≡ 0 → ⊥ = λ e. omega arith in
      let l : prefix_of more < flog longest + 1 = omega arith in
      let n : 0 + prefix_of more ≡ prefix_of more = omega arith in
      rw (ne_eqb longest 0 z, sum-unary m (run_class above sent) 0 (flog longest + 1) (prefix_of more) (number 0) (suffix_parts longest more) l, n, suffix_sum_lem m _ longest more)
      (suffix_short _ longest more o h)

  pub rate_full : 1 ≤ longest → prefix_of more ≡ flog longest + 1 → run_rate m longest above sent more ≡ suffix_sum (full_sum m above sent (prefix_of more)) longest more
  unfolding run_rate run_parts full_sum
  rate_full o h =
      let z : longest ≡ 0 → ⊥ = λ e. omega arith in
      rw (ne_eqb longest 0 z, ← h, sum_ones m (run_class above sent) 0 (prefix_of more) (number 0) (suffix_parts longest more)) (suffix_sum_lem m _ longest more)

-- the rate from the tables is the sum over the run's bins
pub run_from_lem : (m : RateModel) (short full : List Float) (longest : ℕ) (above : Bool) (sent more : ℕ) → Sums m short full → more ≤ longest → longest < 2 ^ 11
    → run_from short full (row_of above sent) longest more ≡ run_rate m longest above sent more
unfolding run_from
run_from_lem m short full longest above sent more s h g =
    either (eqb longest 0)
    (λ t. rw t (sym (rate_none m longest above sent more (eqb-true longest 0 t))))
    (λ t.
    let z : longest ≡ 0 → ⊥ = eqb-false longest 0 t in
    let o : 1 ≤ longest = omega arith in
    let k : prefix_of more < 12 = omega (arith, prefix_most longest more o h, flog-most longest 11 o g) in
    rw t (either (ltb (flog longest) (prefix_of more))
    (λ u. let e : prefix_of more ≡ flog longest + 1 = omega (arith, ltb-true (flog longest) (prefix_of more) u, prefix_most longest more o h) in
    rw (u, s.unended above sent (prefix_of more) k) (sym (rate_full m longest above sent more o e)))
    (λ u. rw (u, s.ended above sent (prefix_of more) k) (sym (rate_short m longest above sent more o (ltb-false (flog longest) (prefix_of more) u))))))

-- ---- the rows of the tables

ones-same : (m : RateModel) (c d : ℕ → ℕ) (i k : ℕ) (sum : Float) → ((i : ℕ) → c i ≡ d i) → ones_sum m c i k sum ≡ ones_sum m d i k sum
unfolding ones_sum
ones-same m c d i zero sum h = refl
ones-same m c d i (suc k) sum h = rw (h i) (ones-same m c d (suc i) k (add binary32 sum (rate_of m (d i * 2 + 1))) h)

-- a kind of run that stands for all of its row
abbrev pub above_in : ℕ → Bool
above_in row = eqb row 3

abbrev pub sent_in : ℕ → ℕ
sent_in row = pick (eqb row 0) 0 (pick (eqb row 1) 1 3)

class_row : (above : Bool) (sent i : ℕ) → run_class above sent i ≡ run_class (above_in (row_of above sent)) (sent_in (row_of above sent)) i
unfolding run_class row_of
class_row true sent i = refl
class_row false sent i =
    either (eqb sent 0)
    (λ t. rw t)
    (λ t. rw t (either (ltb sent 3) (λ u. rw u) (λ u. rw u)))

module _ (m : RateModel) (above : Bool) (sent k : ℕ) where
  full_row : full_sum m above sent k ≡ full_sum m (above_in (row_of above sent)) (sent_in (row_of above sent)) k
  unfolding full_sum
  full_row = ones-same m (run_class above sent) _ 0 k (number 0) (class_row above sent)

  short_row : short_sum m above sent k ≡ short_sum m (above_in (row_of above sent)) (sent_in (row_of above sent)) k
  unfolding short_sum
  short_row = rw (full_row, class_row above sent k)

row_lt : (above : Bool) (sent : ℕ) → row_of above sent < 4
unfolding row_of
row_lt true sent = omega arith
row_lt false sent = either (eqb sent 0) (λ t. rw t (omega arith)) (λ t. rw t (either (ltb sent 3) (λ u. rw u (omega arith)) (λ u. rw u (omega arith))))

-- what one row's loop leaves
abbrev pub row_laid : (ℕ → Float) → List Float → ℕ → List Float
row_laid f l row = laid (λ i. f (i - row * 12)) l (row * 12) 12

row-there : (f : ℕ → Float) (l : List Float) (row k : ℕ) → length l ≡ 48 → row < 4 → k < 12 → get_or (row_laid f l row) (row * 12 + k) nan ≡ f k
row-there f l row k n h g =
    let e : row * 12 + k - row * 12 ≡ k = omega arith in
    laid_in (λ i. f (i - row * 12)) l (row * 12) 12 (row * 12 + k) nan (omega arith) (omega arith) (omega arith) ∙ ap f e

row_other : (f : ℕ → Float) (l : List Float) (row r k : ℕ) → r < row → k < 12 → get_or (row_laid f l row) (r * 12 + k) nan ≡ get_or l (r * 12 + k) nan
row_other f l row r k h g = laid-before (λ i. f (i - row * 12)) l (row * 12) 12 (r * 12 + k) nan (omega arith)

row-length : (f : ℕ → Float) (l : List Float) (row : ℕ) → length (row_laid f l row) ≡ length l
row-length f l row = laid-length (λ i. f (i - row * 12)) l (row * 12) 12

-- four rows, one after the other
abbrev pub four_rows : (ℕ → ℕ → Float) → List Float → List Float
four_rows f l = row_laid (f 3) (row_laid (f 2) (row_laid (f 1) (row_laid (f 0) l 0) 1) 2) 3

four-there : (f : ℕ → ℕ → Float) (l : List Float) (row k : ℕ) → length l ≡ 48 → row < 4 → k < 12 → get_or (four_rows f l) (row * 12 + k) nan ≡ f row k
four-there f l zero k n h g =
    row_other (f 3) _ 3 0 k (omega arith) g ∙ row_other (f 2) _ 2 0 k (omega arith) g ∙ row_other (f 1) _ 1 0 k (omega arith) g ∙ row-there (f 0) l 0 k n h g
four-there f l (suc zero) k n h g =
    row_other (f 3) _ 3 1 k (omega arith) g ∙ row_other (f 2) _ 2 1 k (omega arith) g ∙ row-there (f 1) _ 1 k (row-length (f 0) l 0 ∙ n) h g
four-there f l (suc (suc zero)) k n h g =
    row_other (f 3) _ 3 2 k (omega arith) g ∙ row-there (f 2) _ 2 k (row-length (f 1) _ 1 ∙ row-length (f 0) l 0 ∙ n) h g
four-there f l (suc (suc (suc zero))) k n h g =
    row-there (f 3) _ 3 k (row-length (f 2) _ 2 ∙ row-length (f 1) _ 1 ∙ row-length (f 0) l 0 ∙ n) h g
four-there f l (suc (suc (suc (suc row)))) k n h g = absurd (omega arith)

pub rows-sums : (m : RateModel) (short full : List Float) → length short ≡ 48 → length full ≡ 48
    → Sums m (four_rows (λ row. short_sum m (above_in row) (sent_in row)) short) (four_rows (λ row. full_sum m (above_in row) (sent_in row)) full)
rows-sums m short full s f = record {
  ended = λ above sent k h. four-there (λ row. short_sum m (above_in row) (sent_in row)) short (row_of above sent) k s (row_lt above sent) h ∙ sym (short_row m above sent k);
  unended = λ above sent k h. four-there (λ row. full_sum m (above_in row) (sent_in row)) full (row_of above sent) k f (row_lt above sent) h ∙ sym (full_row m above sent k);
}
