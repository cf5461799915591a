-- A run's rate from two tables of sums, made once for a model: they hold, in a row for each kind of run, what a prefix of k ones costs.
use Rattle.std.specs.Prelude.{◌≡◌, Bool, List, ℕ, zero, suc, ◌+◌, ◌*◌, ◌-◌, ◌^◌, ◌<◌, eqb, ltb, Float, get_or}
use Rattle.std.specs.Float.{nan, binary32}
use Rattle.std.specs.Float.Ieee.{add}
use Rattle.base.specs.Pick.{pick}
use Rattle.base.specs.Upto.{number}
use Rattle.h265.specs.Strings.{flog, short, run_class, prefix_of, suffixes}
use Rattle.rates.specs.declared.RateModel.{RateModel}
use Rattle.rates.specs.Rates.{rate_of}

-- the runs whose prefix bins have the same classes: index runs by the index sent, 0, 1 or 2, and more; copy-above runs
unfoldable pub row_of : Bool → ℕ → ℕ
row_of above sent = pick above 3 (pick (eqb sent 0) 0 (pick (ltb sent 3) 1 2))

-- sum, and then k ones from bin i on
unfoldable pub ones_sum : RateModel → (ℕ → ℕ) → ℕ → ℕ → Float → Float
ones_sum m c i zero sum = sum
ones_sum m c i (suc k) sum = ones_sum m c (suc i) k (add binary32 sum (rate_of m (c i * 2 + 1)))

-- a prefix of k ones that has no zero after it
unfoldable pub full_sum : RateModel → Bool → ℕ → ℕ → Float
full_sum m above sent k = ones_sum m (run_class above sent) 0 k (number 0)

-- one that has, and where the prefix is 2 or more the k - 1 bits of a suffix
unfoldable pub with_bits : ℕ → Float → Float
with_bits k sum = pick (ltb k 2) sum (add binary32 sum (number (k - 1)))

unfoldable pub short_sum : RateModel → Bool → ℕ → ℕ → Float
short_sum m above sent k = with_bits k (add binary32 (full_sum m above sent k) (rate_of m (run_class above sent k * 2)))

pub record Sums (m : RateModel) (short full : List Float) : Type 0 where
  pub ended : (above : Bool) (sent k : ℕ) → k < 12 → get_or short (row_of above sent * 12 + k) nan ≡ short_sum m above sent k
  pub unended : (above : Bool) (sent k : ℕ) → k < 12 → get_or full (row_of above sent * 12 + k) nan ≡ full_sum m above sent k

-- sum, and then a suffix in truncated binary, of n values
unfoldable pub tb_sum : Float → ℕ → ℕ → Float
tb_sum sum n v =
    pick (ltb n 2) sum
    (pick (ltb v (short n)) (add binary32 sum (number (flog n))) (add binary32 (add binary32 sum (number (flog n))) (number 1)))

unfoldable pub suffix_sum : Float → ℕ → ℕ → Float
suffix_sum sum longest more =
    pick (eqb more 0) sum (tb_sum sum (suffixes longest (flog more)) (more - 2 ^ flog more))

-- the rate of a run whose kind has the row `row`
unfoldable pub run_from : List Float → List Float → ℕ → ℕ → ℕ → Float
run_from short full row longest more =
    pick (eqb longest 0) (number 0)
    (pick (ltb (flog longest) (prefix_of more)) (suffix_sum (get_or full (row * 12 + prefix_of more) nan) longest more) (get_or short (row * 12 + prefix_of more) nan))
