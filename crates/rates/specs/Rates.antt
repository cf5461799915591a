-- The rate model: the test of its eighteen rates (refusal 6), and what a value's bins cost by it, in bits.
-- A sum starts at 0.0 and adds from the left, as source 000 adds: each bin of a run's prefix by itself, the bits of a fixed-length number at one go.
use Rattle.std.specs.Prelude.{Bool, List, [], ◌∷◌, ◌++◌, ℕ, zero, suc, ◌+◌, ◌-◌, ◌/◌, ◌%◌, ◌^◌, eqb, ltb, leb, Float, get_or, length}
use Rattle.std.specs.Float.{nan, binary32}
use Rattle.std.specs.Float.Ieee.{add, div, le}
use Rattle.base.specs.Pick.{pick}
use Rattle.base.specs.Tests.{every, up_to}
use Rattle.base.specs.Upto.{number}
use Rattle.h265.specs.Strings.{bits, flog, short, tb, unary, rice_of, run_class, prefix_of, suffixes}
use Rattle.rates.specs.declared.Pair.{Pair}
use Rattle.rates.specs.declared.RateModel.{RateModel}

-- ---- 6: one of the 18 rates is not a number from 0 to 64

unfoldable pub rate_in : Float → Bool
rate_in r = every (le (number 0) r ∷ le r (number 64) ∷ [])

unfoldable pub pair_in : Pair → Bool
pair_in p = every (rate_in p.bin0 ∷ rate_in p.bin1 ∷ [])

abbrev pub no_rates : Pair
no_rates = record { bin0 = nan; bin1 = nan }

unfoldable pub rates_in : RateModel → Bool
rates_in m = every (pair_in m.run_type ∷ up_to 8 (λ i. pair_in (get_or m.run_prefix i no_rates)) ∷ [])

-- ---- what a bin costs, by its byte

abbrev pub one_bit : Pair
one_bit = record { bin0 = number 1; bin1 = number 1 }

-- class 1 has the run-type rates, classes 3 to 10 the run-prefix rates; a bin of another class is one bit
unfoldable pub class_rates : RateModel → ℕ → Pair
class_rates m c = pick (eqb c 1) m.run_type (pick (every (leb 3 c ∷ leb c 10 ∷ [])) (get_or m.run_prefix (c - 3) no_rates) one_bit)

unfoldable pub rate_of : RateModel → ℕ → Float
rate_of m byte = pick (eqb (byte % 2) 0) (class_rates m (byte / 2)).bin0 (class_rates m (byte / 2)).bin1

-- ---- what is added at one go: a bin's rate, or one bit for each bypass bin of a row

pub data Part : Type 0 where
  Bin : ℕ → Part
  Row : List ℕ → Part

abbrev pub bins_of : List Part → List ℕ
bins_of [] = []
bins_of (Bin b ∷ ps) = b ∷ bins_of ps
bins_of (Row bs ∷ ps) = bs ++ bins_of ps

abbrev pub part_rate : RateModel → Part → Float
part_rate m (Bin b) = rate_of m b
part_rate m (Row bs) = number (length bs)

unfoldable pub sum_of : RateModel → Float → List Part → Float
sum_of m sum [] = sum
sum_of m sum (p ∷ ps) = sum_of m (add binary32 sum (part_rate m p)) ps

-- ---- a run's length

abbrev pub singly : List ℕ → List Part
singly [] = []
singly (b ∷ bs) = Bin b ∷ singly bs

-- truncated binary: nothing over an alphabet of one value; of a long code's bits the last stands apart
unfoldable pub tb_parts : ℕ → ℕ → List Part
tb_parts n v =
    pick (ltb n 2) []
    (pick (ltb v (short n)) (Row (bits (flog n) v) ∷ [])
    (Row (bits (flog n) ((v + short n) / 2)) ∷ Bin ((v + short n) % 2) ∷ []))

unfoldable pub suffix_parts : ℕ → ℕ → List Part
suffix_parts longest zero = []
suffix_parts longest (suc v) = tb_parts (suffixes longest (flog (suc v))) (suc v - 2 ^ flog (suc v))

unfoldable pub run_parts : ℕ → Bool → ℕ → ℕ → List Part
run_parts longest above sent more =
    pick (eqb longest 0) []
    (singly (unary (run_class above sent) 0 (flog longest + 1) (prefix_of more)) ++ suffix_parts longest more)

unfoldable pub run_rate : RateModel → ℕ → Bool → ℕ → ℕ → Float
run_rate m longest above sent more = sum_of m (number 0) (run_parts longest above sent more)

-- ---- an index, and its run's share of num_palette_indices_minus1: a Rice code of parameter R grows by one bin in 2^R index runs

unfoldable pub index_rate : ℕ → ℕ → Float
index_rate alphabet sent = number (length (tb alphabet sent))

unfoldable pub share_rate : ℕ → Float
share_rate m = div binary32 (number 1) (number (2 ^ rice_of m))
