-- Bin strings of Rec. ITU-T H.265, 9.3.3, in the order in which they are sent. A byte is class × 2 + bin; class 0 is bypass, so that there byte and bin are one.
use Rattle.std.specs.Prelude.{ℕ, zero, suc, ◌+◌, ◌*◌, ◌-◌, ◌/◌, ◌%◌, ◌^◌, Bool, true, false, List, [], ◌∷◌, ◌++◌, ltb, eqb}
use Rattle.base.specs.Pick.{pick}

abbrev pub bit : Bool → ℕ
bit true = 1
bit false = 0

-- one bin of class c
abbrev pub bin_of : ℕ → Bool → List ℕ
bin_of c b = (c * 2 + bit b) ∷ []

-- fixed length: the n low bits of v, high bit first
unfoldable pub bits : ℕ → ℕ → List ℕ
bits zero v = []
bits (suc n) v = v / 2 ^ n % 2 ∷ bits n v

-- Exp-Golomb of order k (9.3.3.5): while v is 2^k or more, a one, v less 2^k and k one higher; then a zero and k bits.
-- f bounds the ones, and v itself is bound enough.
unfoldable pub egk_aux : ℕ → ℕ → ℕ → List ℕ
egk_aux zero k v = 0 ∷ bits k v
egk_aux (suc f) k v = let more : List ℕ = 1 ∷ egk_aux f (suc k) (v - 2 ^ k) in pick (ltb v (2 ^ k)) (0 ∷ bits k v) more

unfoldable pub egk : ℕ → ℕ → List ℕ
egk k v = egk_aux v k v

-- the whole part of the base 2 logarithm of n, 0 at 0
unfoldable pub flog_aux : ℕ → ℕ → ℕ
flog_aux zero n = 0
flog_aux (suc f) n = let more : ℕ = suc (flog_aux f (n / 2)) in pick (ltb n 2) 0 more

unfoldable pub flog : ℕ → ℕ
flog n = flog_aux n n

-- truncated binary (9.3.3.4) over an alphabet of n values: the low `short n` of them in floor(log2 n) bits, the others, raised by short n, in one more
abbrev pub short : ℕ → ℕ
short n = 2 ^ (flog n + 1) - n

unfoldable pub tb : ℕ → ℕ → List ℕ
tb n v = pick (ltb v (short n)) (bits (flog n) v) (bits (flog n + 1) (v + short n))

-- truncated unary: v ones, then a zero unless v is the greatest, m; bin number i is of class c i
unfoldable pub unary : (ℕ → ℕ) → ℕ → ℕ → ℕ → List ℕ
unary c i zero v = []
unary c i (suc m) zero = c i * 2 ∷ []
unary c i (suc m) (suc v) = (c i * 2 + 1) ∷ unary c (suc i) m v

-- num_palette_indices_minus1 (9.3.3.14): R = 3 + ((M + 1) >> 3); below 4 × 2^R truncated Rice, else four ones and the rest in EG(R + 1)
abbrev pub bypass : ℕ → ℕ
bypass i = 0

abbrev pub rice_of : ℕ → ℕ
rice_of m = 3 + (m + 1) / 8

unfoldable pub rice : ℕ → ℕ → List ℕ
rice r v = pick (ltb v (4 * 2 ^ r)) (unary bypass 0 4 (v / 2 ^ r) ++ bits r (v % 2 ^ r)) (unary bypass 0 4 4 ++ egk (r + 1) (v - 4 * 2 ^ r))

unfoldable pub count_bins : ℕ → ℕ → List ℕ
count_bins m v = rice (rice_of m) v

-- contexts of palette_run_prefix (9.3.4.2.8): by kind, number of the bin and, at bin 0 of an index run, the index sent; classes 3 to 10 are contexts 0 to 7
unfoldable pub run_class : Bool → ℕ → ℕ → ℕ
run_class above sent i =
    pick (eqb i 0) (pick above 8 (pick (eqb sent 0) 3 (pick (ltb sent 3) 4 5)))
    (pick (ltb i 3) (pick above 9 6)
    (pick (ltb i 5) (pick above 10 7) 0))

-- palette_run_prefix and palette_run_suffix: `more` further cells of at most `longest`.
-- Where the prefix is 1, or longest is 2^(prefix - 1), the suffix's alphabet has one value and sends no bin.
unfoldable pub prefix_of : ℕ → ℕ
prefix_of zero = 0
prefix_of (suc v) = flog (suc v) + 1

unfoldable pub suffixes : ℕ → ℕ → ℕ
suffixes longest k = pick (ltb longest (2 * 2 ^ k)) (longest - 2 ^ k + 1) (2 ^ k)

unfoldable pub suffix_bins : ℕ → ℕ → List ℕ
suffix_bins longest zero = []
suffix_bins longest (suc v) = tb (suffixes longest (flog (suc v))) (suc v - 2 ^ flog (suc v))

unfoldable pub run_bins : ℕ → Bool → ℕ → ℕ → List ℕ
run_bins longest above sent more =
    pick (eqb longest 0) []
    (unary (run_class above sent) 0 (flog longest + 1) (prefix_of more) ++ suffix_bins longest more)

-- the marker that stands for delta_qp() and chroma_qp_offset(): class 11, bin 0
abbrev pub marker : List ℕ
marker = 22 ∷ []
