-- The parts that are added are the bins that are sent, the same bins in the same order.
use Rattle.std.specs.Prelude.{◌≡◌, refl, Bool, List, [], ◌∷◌, ◌++◌, ℕ, zero, suc, ◌+◌, ◌*◌, ◌-◌, ◌%◌, ◌^◌, ◌≤◌, ◌<◌, ltb, eqb}
use Rattle.std.proofs.Common.{ap, sym, append_assoc, append-nil, arith, ltb-true, ltb-false}
use Rattle.base.specs.Pick.{either}
use Rattle.h265.specs.Strings.{bits, flog, short, tb, unary, run_class, prefix_of, suffixes, suffix_bins, run_bins}
use Rattle.h265.specs.StringLaws.{flog-low, flog-high, flog-is}
use Rattle.h265.proofs.TbLaws.{tb-short, tb-long}
use Rattle.h265.proofs.RunLaws.{suffixes-one, suffix_in}
use Rattle.base.specs.Powers.{pow_next}
use Rattle.rates.specs.Rates.{Part, Bin, Row, bins_of, singly, tb_parts, suffix_parts, run_parts}

pub bins_append : (ps qs : List Part) → bins_of (ps ++ qs) ≡ bins_of ps ++ bins_of qs
bins_append [] qs = refl
bins_append (Bin b ∷ ps) qs = ap (λ (l : List ℕ). b ∷ l) (bins_append ps qs)
bins_append (Row bs ∷ ps) qs = rw (bins_append ps qs) (sym (append_assoc bs (bins_of ps) (bins_of qs)))

pub bins_singly : (bs : List ℕ) → bins_of (singly bs) ≡ bs
bins_singly [] = refl
bins_singly (b ∷ bs) = ap (λ (l : List ℕ). b ∷ l) (bins_singly bs)

no_bits : (v : ℕ) → [] ≡ bits 0 v
unfolding bits
no_bits v = refl

one_bit_lem : (b : ℕ) → b < 2 → bits 1 b ≡ b ∷ []
unfolding bits
one_bit_lem zero h = refl
one_bit_lem (suc zero) h = refl
one_bit_lem (suc (suc b)) h = absurd (omega arith)

pub tb-parts : (n v : ℕ) → 1 ≤ n → v < n → bins_of (tb_parts n v) ≡ tb n v
unfolding tb_parts
tb-parts n v h k =
    either (ltb n 2)
    (λ t.
    let a : n < 2 = ltb-true n 2 t in
    let f : flog n ≡ 0 = flog-is 0 n h a in
    let b : v < short n = omega (arith, ap (λ (i : ℕ). 2 ^ (i + 1)) f) in
    rw (t, tb-short n v b, f) (no_bits v))
    (λ t. rw t (either (ltb v (short n))
    (λ u. rw (u, tb-short n v (ltb-true v (short n) u)) (append-nil _))
    (λ u. let o : (v + short n) % 2 < 2 = omega arith in rw (u, tb-long n v (ltb-false v (short n) u), one_bit_lem ((v + short n) % 2) o))))

pub suffix_parts_lem : (longest more : ℕ) → more ≤ longest → bins_of (suffix_parts longest more) ≡ suffix_bins longest more
unfolding suffix_parts suffix_bins
suffix_parts_lem longest zero h = refl
suffix_parts_lem longest (suc v) h =
    let k : ℕ = flog (suc v) in
    let i : 2 ^ flog (suc v) ≤ suc v = flog-low (suc v) (omega arith) in
    let j : suc v < 2 * 2 ^ flog (suc v) = omega (arith, flog-high (suc v) (omega arith), pow_next (flog (suc v))) in
    tb-parts (suffixes longest (flog (suc v))) (suc v - 2 ^ flog (suc v)) (suffixes-one longest (flog (suc v)) (omega arith)) (suffix_in longest (flog (suc v)) (suc v) i j h)

pub run_parts_lem : (longest : ℕ) (above : Bool) (sent more : ℕ) → more ≤ longest → bins_of (run_parts longest above sent more) ≡ run_bins longest above sent more
unfolding run_parts run_bins
run_parts_lem longest above sent more h =
    either (eqb longest 0)
    (λ t. rw t)
    (λ t. rw (t, bins_append (singly (unary (run_class above sent) 0 (flog longest + 1) (prefix_of more))) (suffix_parts longest more), bins_singly, suffix_parts_lem longest more h))
