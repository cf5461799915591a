-- Rates from 0 to 64 keep every sum finite.
use Rattle.std.specs.Prelude.{◌≡◌, refl, Bool, true, false, [], ◌∷◌, ℕ, zero, suc, ◌+◌, ◌*◌, ◌-◌, ◌/◌, ◌%◌, ◌^◌, ◌≤◌, ◌<◌, T, ltb, leb, eqb, Float, get_or, length}
use Rattle.std.proofs.Common.{sym, ⊎_elim, arith, lit≤, pow_mono, pow_pos, leb-true, eqb-true}
use Rattle.std.specs.Float.Ieee.{le}
use Rattle.std.proofs.lemmas.Bool.{eqb-false}
use Rattle.base.specs.Pick.{either, true_false, lt_or_le}
use Rattle.base.specs.Tests.{every, up_to, up_to-at}
use Rattle.base.specs.Upto.{Upto, number, number_upto, within_upto, add_upto, weaken, share_upto}
use Rattle.bins.specs.Logarithm.{flog-most}
use Rattle.h265.specs.Strings.{flog, short, tb, rice_of, run_class, prefix_of, suffixes}
use Rattle.h265.proofs.RunLaws.{prefix_most}
use Rattle.h265.specs.StringLaws.{length-bits, flog-low}
use Rattle.rates.specs.declared.RateModel.{RateModel}
use Rattle.rates.specs.declared.Pair.{Pair}
use Rattle.rates.specs.Rates.{rate_in, pair_in, one_bit, no_rates, rates_in, class_rates, rate_of, run_rate, index_rate, share_rate}
use Rattle.sums.specs.Sums.{ones_sum, full_sum, with_bits, short_sum, tb_sum, suffix_sum}
use Rattle.sums.specs.SumLaws.{rate_none, rate_short, rate_full}

both : (a b : Bool) → every (a ∷ b ∷ []) ≡ true → (a ≡ true) × (b ≡ true)
both true true e = (refl, refl)
both true false e = absurd (true_false (sym e))
both false b e = absurd (true_false (sym e))

holds : (b : Bool) → b ≡ true → T b
holds true e = tt
holds false e = absurd (true_false (sym e))

one_upto : Upto 64 (number 1)
one_upto = weaken 1 64 (number 1) (lit≤ tt) (number_upto 1 (lit≤ tt))

rate_in_lem : (r : Float) → rate_in r ≡ true → Upto 64 r
unfolding rate_in
rate_in_lem r e = let b = both (le (number 0) r) (le r (number 64)) e in within_upto r (holds _ b.0) (holds _ b.1)

record Fine (p : Pair) : Type 0 where
  bin0 : Upto 64 p.bin0
  bin1 : Upto 64 p.bin1

pair_in_lem : (p : Pair) → pair_in p ≡ true → Fine p
unfolding pair_in
pair_in_lem p e = let b = both (rate_in p.bin0) (rate_in p.bin1) e in record { bin0 = rate_in_lem _ b.0; bin1 = rate_in_lem _ b.1 }

bit_fine : Fine one_bit
bit_fine = record { bin0 = one_upto; bin1 = one_upto }

parts : (m : RateModel) → rates_in m ≡ true → (pair_in m.run_type ≡ true) × (up_to 8 (λ i. pair_in (get_or m.run_prefix i no_rates)) ≡ true)
unfolding rates_in
parts m e = both (pair_in m.run_type) (up_to 8 (λ i. pair_in (get_or m.run_prefix i no_rates))) e

pub type_upto : (m : RateModel) → rates_in m ≡ true → Upto 64 m.run_type.bin0 × Upto 64 m.run_type.bin1
type_upto m e = let f = pair_in_lem m.run_type (parts m e).0 in (f.bin0, f.bin1)

class_upto : (m : RateModel) (c : ℕ) → rates_in m ≡ true → Fine (class_rates m c)
unfolding class_rates
class_upto m c e =
    either (eqb c 1)
    (λ t. rw t (pair_in_lem m.run_type (parts m e).0))
    (λ t. rw t (either (every (leb 3 c ∷ leb c 10 ∷ []))
    (λ u.
    let h = both (leb 3 c) (leb c 10) u in
    rw u (pair_in_lem _ (up_to-at (λ i. pair_in (get_or m.run_prefix i no_rates)) 8 (parts m e).1 (c - 3) (omega (arith, leb-true 3 c h.0, leb-true c 10 h.1)))))
    (λ u. rw u bit_fine)))

pub rate_upto : (m : RateModel) (b : ℕ) → rates_in m ≡ true → Upto 64 (rate_of m b)
unfolding rate_of
rate_upto m b e =
    let f = class_upto m (b / 2) e in
    either (eqb (b % 2) 0) (λ t. rw t f.bin0) (λ t. rw t f.bin1)

-- ---- sums

ones_upto : (m : RateModel) (c : ℕ → ℕ) (i k b : ℕ) (sum : Float) → rates_in m ≡ true → b + 64 * k ≤ 16777216 → Upto b sum → Upto (b + 64 * k) (ones_sum m c i k sum)
unfolding ones_sum
ones_upto m c i zero b sum e l u = let z : b + 64 * 0 ≡ b = omega arith in rw z u
ones_upto m c i (suc k) b sum e l u =
    let z : b + 64 * suc k ≡ b + 64 + 64 * k = omega arith in
    rw z (ones_upto m c (suc i) k (b + 64) _ e (omega arith) (add_upto b 64 sum _ (omega arith) u (rate_upto m (c i * 2 + 1) e)))

full_upto : (m : RateModel) (above : Bool) (sent k : ℕ) → rates_in m ≡ true → k ≤ 11 → Upto (64 * k) (full_sum m above sent k)
unfolding full_sum
full_upto m above sent k e h = let z : 0 + 64 * k ≡ 64 * k = omega arith in rw z at (ones_upto m (run_class above sent) 0 k 0 (number 0) e (omega arith) (number_upto 0 (lit≤ tt)))

short_upto : (m : RateModel) (above : Bool) (sent k : ℕ) → rates_in m ≡ true → k ≤ 10 → Upto 720 (short_sum m above sent k)
unfolding short_sum with_bits
short_upto m above sent k e h =
    let u = add_upto (64 * k) 64 _ _ (omega arith) (full_upto m above sent k e (omega arith)) (rate_upto m (run_class above sent k * 2) e) in
    either (ltb k 2)
    (λ t. rw t (weaken (64 * k + 64) 720 _ (omega arith) u))
    (λ t. rw t (weaken (64 * k + 64 + (k - 1)) 720 _ (omega arith) (add_upto (64 * k + 64) (k - 1) _ _ (omega arith) u (number_upto (k - 1) (omega arith)))))

tb_upto : (sum : Float) (n v b : ℕ) → 1 ≤ n → n < 2048 → b ≤ 720 → Upto b sum → Upto (b + 12) (tb_sum sum n v)
unfolding tb_sum
tb_upto sum n v b h g l u =
    let f : flog n < 11 = flog-most n 11 h g in
    let k = add_upto b (flog n) sum _ (omega arith) u (number_upto (flog n) (omega arith)) in
    either (ltb n 2)
    (λ t. rw t (weaken b (b + 12) _ (omega arith) u))
    (λ t. rw t (either (ltb v (short n))
    (λ w. rw w (weaken (b + flog n) (b + 12) _ (omega arith) k))
    (λ w. rw w (weaken (b + flog n + 1) (b + 12) _ (omega arith) (add_upto (b + flog n) 1 _ _ (omega arith) k (number_upto 1 (lit≤ tt)))))))

suffixes_in : (longest k : ℕ) → 2 ^ k ≤ longest → (1 ≤ suffixes longest k) × (suffixes longest k ≤ longest)
unfolding suffixes
suffixes_in longest k h = either (ltb longest (2 * 2 ^ k)) (λ t. rw t (omega (arith, pow_pos k), omega (arith, pow_pos k))) (λ t. rw t (pow_pos k, h))

suffix_upto : (sum : Float) (longest more b : ℕ) → more ≤ longest → longest < 2048 → b ≤ 720 → Upto b sum → Upto (b + 12) (suffix_sum sum longest more)
unfolding suffix_sum
suffix_upto sum longest more b h g l u =
    either (eqb more 0)
    (λ t. rw t (weaken b (b + 12) _ (omega arith) u))
    (λ t.
    let o : more ≡ 0 → ⊥ = eqb-false more 0 t in
    let i = suffixes_in longest (flog more) (omega (arith, flog-low more (omega arith))) in
    rw t (tb_upto sum (suffixes longest (flog more)) (more - 2 ^ flog more) b i.0 (omega (arith, i.1)) l u))

-- a run's length
pub run_upto : (m : RateModel) (longest : ℕ) (above : Bool) (sent more : ℕ) → rates_in m ≡ true → more ≤ longest → longest < 1024 → Upto 800 (run_rate m longest above sent more)
run_upto m longest above sent more e h g =
    either (eqb longest 0)
    (λ t. rw (rate_none m longest above sent more (eqb-true longest 0 t)) (weaken 0 800 _ (lit≤ tt) (number_upto 0 (lit≤ tt))))
    (λ t.
    let z : longest ≡ 0 → ⊥ = eqb-false longest 0 t in
    let o : 1 ≤ longest = omega arith in
    let f : flog longest < 10 = flog-most longest 10 o g in
    ⊎_elim
    (λ (l : flog longest < prefix_of more).
    let k : prefix_of more ≡ flog longest + 1 = omega (arith, prefix_most longest more o h) in
    rw (rate_full m longest above sent more o k) (weaken (64 * prefix_of more + 12) 800 _ (omega arith) (suffix_upto _ longest more (64 * prefix_of more) h (omega arith) (omega arith) (full_upto m above sent (prefix_of more) e (omega arith)))))
    (λ (l : prefix_of more ≤ flog longest). rw (rate_short m longest above sent more o l) (weaken 720 800 _ (lit≤ tt) (short_upto m above sent (prefix_of more) e (omega arith))))
    (lt_or_le (flog longest) (prefix_of more)))

-- ---- an index, and a share of the count

tb-length : (n v : ℕ) → length (tb n v) ≤ flog n + 1
unfolding tb
tb-length n v = either (ltb v (short n)) (λ t. rw (t, length-bits (flog n) v) (omega arith)) (λ t. rw (t, length-bits (flog n + 1) (v + short n)) (omega arith))

pub index_upto : (alphabet sent : ℕ) → 1 ≤ alphabet → alphabet < 128 → Upto 7 (index_rate alphabet sent)
unfolding index_rate
index_upto alphabet sent h g =
    let l : length (tb alphabet sent) ≤ 7 = omega (arith, tb-length alphabet sent, flog-most alphabet 7 h g) in
    weaken (length (tb alphabet sent)) 7 _ l (number_upto (length (tb alphabet sent)) (omega arith))

pub shares_upto : (most : ℕ) → most ≤ 64 → Upto 1 (share_rate most)
unfolding share_rate
shares_upto most h = share_upto (2 ^ rice_of most) (pow_pos (rice_of most)) (pow_mono {i = rice_of most} {j = 24} (omega arith))
