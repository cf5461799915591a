-- Both laws of a run's length: palette_run_prefix with palette_run_suffix.
use Rattle.std.specs.Prelude.{◌≡◌, refl, Bool, true, false, List, [], ◌∷◌, ◌++◌, ltb, eqb}
use Rattle.std.proofs.Common.{ap, sym, ◌∙◌, pow_pos, lt-ltb, le-ltb, ltb-true, ltb-false, eqb-true, eq-eqb, ne_eqb}
use Prim.Native.Nat.{ℕ, zero, suc, ◌+◌, ◌*◌, ◌-◌, ◌^◌, ◌≤◌, ◌<◌}
use Rattle.std.proofs.Math.Numerals.{add-one}
use native.Mathlib.Omega.{arith}
use Rattle.std.proofs.Math.Dec.{eqb-suc-zero}
use Rattle.std.proofs.Math.Pow.{pow_mono}
use Rattle.std.proofs.lemmas.Bool.{eqb-false}
use Rattle.base.specs.Pick.{pick}
use Rattle.base.specs.Answer.{Value, onward, onward-value, same-value, same_place}
use Rattle.base.specs.Stands.{Stands, stands-none, none-stands, join, split, Code}
use Rattle.h265.specs.Strings.{flog, unary, tb, run_class, prefix_of, suffixes, suffix_bins, run_bins}
use Rattle.base.specs.Powers.{pow_next, exp_lt}
use Rattle.h265.specs.StringLaws.{flog-low, flog-high, flog-is}
use Rattle.h265.specs.Parse.{tb_at, unary_at, suffix_at, run_at}
use Rattle.h265.specs.UnaryLaws.{unary_code}
use Rattle.h265.proofs.TbLaws.{tb_code}

pub suffixes-one : (longest k : ℕ) → 2 ^ k ≤ longest → 1 ≤ suffixes longest k
unfolding suffixes
suffixes-one longest k h = go (ltb longest (2 * 2 ^ k))
  where
    go : (t : Bool) → 1 ≤ pick t (longest - 2 ^ k + 1) (2 ^ k)
    go true = omega arith
    go false = omega (arith, pow_pos k)

pub suffix_in : (longest k w : ℕ) → 2 ^ k ≤ w → w < 2 * 2 ^ k → w ≤ longest → w - 2 ^ k < suffixes longest k
unfolding suffixes
suffix_in longest k w a b c = go (ltb longest (2 * 2 ^ k))
  where
    go : (t : Bool) → w - 2 ^ k < pick t (longest - 2 ^ k + 1) (2 ^ k)
    go true = omega arith
    go false = omega arith

suffix_out : (longest k x : ℕ) → 2 ^ k ≤ longest → x < suffixes longest k → (2 ^ k + x ≤ longest) × (2 ^ k + x < 2 * 2 ^ k)
unfolding suffixes
suffix_out longest k x a b = go (ltb longest (2 * 2 ^ k)) refl b
  where
    go : (t : Bool) → ltb longest (2 * 2 ^ k) ≡ t → x < pick t (longest - 2 ^ k + 1) (2 ^ k) → (2 ^ k + x ≤ longest) × (2 ^ k + x < 2 * 2 ^ k)
    go true t h = let c : longest < 2 * 2 ^ k = ltb-true longest (2 * 2 ^ k) t in omega arith
    go false t h = let c : 2 * 2 ^ k ≤ longest = ltb-false longest (2 * 2 ^ k) t in omega arith

-- the prefix and the suffix of w where 2^k ≤ w < 2^(k+1)
pub prefix_is : (k w : ℕ) → 2 ^ k ≤ w → w < 2 * 2 ^ k → prefix_of w ≡ suc k
unfolding prefix_of
prefix_is k zero a b = absurd (omega (arith, pow_pos k))
prefix_is k (suc w) a b = rw (flog-is k (suc w) a (omega arith)) (add-one k)

pub suffix_is : (longest k w : ℕ) → 2 ^ k ≤ w → w < 2 * 2 ^ k → suffix_bins longest w ≡ tb (suffixes longest k) (w - 2 ^ k)
unfolding suffix_bins
suffix_is longest k zero a b = absurd (omega (arith, pow_pos k))
suffix_is longest k (suc w) a b = rw (flog-is k (suc w) a (omega arith))

-- no prefix is longer than that of the longest run
pub prefix_most : (longest more : ℕ) → 1 ≤ longest → more ≤ longest → prefix_of more ≤ flog longest + 1
unfolding prefix_of
prefix_most longest zero h g = omega arith
prefix_most longest (suc v) h g =
    let x : flog (suc v) < flog longest + 1 = exp_lt (flog longest + 1) (flog (suc v)) (omega (arith, flog-low (suc v) (omega arith), flog-high longest h)) in
    omega arith

pub runs_zero : (above : Bool) (sent more : ℕ) → run_bins 0 above sent more ≡ []
unfolding run_bins
runs_zero above sent more = refl

pub runs-some : (longest : ℕ) (above : Bool) (sent more : ℕ) → 1 ≤ longest → run_bins longest above sent more ≡ unary (run_class above sent) 0 (flog longest + 1) (prefix_of more) ++ suffix_bins longest more
unfolding run_bins
runs-some longest above sent more h = let o : longest ≡ 0 → ⊥ = λ e. omega arith in rw (ne_eqb longest 0 o)

module _ (longest : ℕ) (above : Bool) (sent : ℕ) (some : 1 ≤ longest) where
  there-some : (l : List ℕ) (p q v m : ℕ) → v ≤ longest → Stands l p (unary (run_class above sent) 0 (flog longest + 1) (prefix_of v)) m → Stands l m (suffix_bins longest v) q → run_at longest above sent l p ≡ Value v q
  unfolding run_at prefix_of suffix_at suffix_bins
  there-some l p q zero m h a b =
      let o : longest ≡ 0 → ⊥ = λ e. omega arith in
      rw (ne_eqb longest 0 o, (unary_code (run_class above sent) 0 (flog longest + 1)).there l p m 0 (omega arith) a, none-stands b)
  there-some l p q (suc v) m h a b =
      let o : longest ≡ 0 → ⊥ = λ e. omega arith in
      let w : ℕ = suc v in
      let k : ℕ = flog (suc v) in
      let i : 2 ^ flog (suc v) ≤ suc v = flog-low (suc v) (omega arith) in
      let j : suc v < 2 * 2 ^ flog (suc v) = omega (arith, flog-high (suc v) (omega arith), pow_next (flog (suc v))) in
      let g : flog (suc v) < flog longest + 1 = exp_lt (flog longest + 1) (flog (suc v)) (omega (arith, flog-high longest some)) in
      let x : 2 ^ flog (suc v) + (suc v - 2 ^ flog (suc v)) ≡ suc v = omega arith in
      let c : 1 ≤ suffixes longest (flog (suc v)) = suffixes-one longest (flog (suc v)) (omega arith) in
      rw (ne_eqb longest 0 o, (unary_code (run_class above sent) 0 (flog longest + 1)).there l p m (flog (suc v) + 1) (omega arith) a, add-one (flog (suc v)))
      (rw ((tb_code (suffixes longest (flog (suc v))) c).there l m q (suc v - 2 ^ flog (suc v)) (suffix_in longest (flog (suc v)) (suc v) i j h) b, x))

  back_some : (l : List ℕ) (p q v m h : ℕ) → h ≤ flog longest + 1 → Stands l p (unary (run_class above sent) 0 (flog longest + 1) h) m → suffix_at longest h l m ≡ Value v q → Stands l p (run_bins longest above sent v) q × (v ≤ longest)
  unfolding suffix_at prefix_of suffix_bins
  back_some l p q v m zero h a e =
      let z : 0 ≡ v = same-value e in
      let s : Stands l p (unary (run_class above sent) 0 (flog longest + 1) 0 ++ []) q = join a (rw (← same_place e) (stands-none l m)) in
      rw (← z) (rw (runs-some longest above sent 0 some) s, omega arith)
  back_some l p q v m (suc k) h a e =
      let f : 2 ^ k ≤ 2 ^ flog longest = pow_mono {i = k} {j = flog longest} (omega arith) in
      let g : 2 ^ k ≤ longest = omega (arith, flog-low longest some) in
      let y = onward-value (tb_at (suffixes longest k) l m) _ e in
      let b = (tb_code (suffixes longest k) (suffixes-one longest k g)).back l m y.1 y.0 y.2 in
      fin y.0 b.1 g (rw (same_place y.3) at b.0) (same-value y.3)
    where
      fin : (x : ℕ) → x < suffixes longest k → 2 ^ k ≤ longest → Stands l m (tb (suffixes longest k) x) q → 2 ^ k + x ≡ v → Stands l p (run_bins longest above sent v) q × (v ≤ longest)
      fin x c g s z =
          let o = suffix_out longest k x g c in
          let i : 2 ^ k ≤ v = omega arith in
          let j : v < 2 * 2 ^ k = omega (arith, o.1) in
          let d : v - 2 ^ k ≡ x = omega arith in
          (rw (runs-some longest above sent v some, prefix_is k v i j, suffix_is longest k v i j, d) (join a s), omega (arith, o.0))

run_there : (longest : ℕ) (above : Bool) (sent : ℕ) (l : List ℕ) (p q v : ℕ) → v ≤ longest → Stands l p (run_bins longest above sent v) q → run_at longest above sent l p ≡ Value v q
unfolding run_at
run_there zero above sent l p q v h s = go (rw (runs_zero above sent v) at s)
  where
    go : Stands l p [] q → run_at zero above sent l p ≡ Value v q
    go t = let z : v ≡ 0 = omega arith in rw (z, none-stands t)
run_there (suc n) above sent l p q v h s =
    let o : 1 ≤ suc n = omega arith in
    let w = split (unary (run_class above sent) 0 (flog (suc n) + 1) (prefix_of v)) (suffix_bins (suc n) v) (rw (runs-some (suc n) above sent v o) at s) in
    there-some (suc n) above sent o l p q v w.mid h w.first w.second

run_at-some : (n : ℕ) (above : Bool) (sent : ℕ) (l : List ℕ) (p : ℕ) → run_at (suc n) above sent l p ≡ onward (unary_at (run_class above sent) 0 (flog (suc n) + 1) l p) (λ k q. suffix_at (suc n) k l q)
unfolding run_at
run_at-some n above sent l p = rw (eqb-suc-zero n)

run_back : (longest : ℕ) (above : Bool) (sent : ℕ) (l : List ℕ) (p q v : ℕ) → run_at longest above sent l p ≡ Value v q → Stands l p (run_bins longest above sent v) q × (v ≤ longest)
unfolding run_at
run_back zero above sent l p q v e =
    let z : 0 ≡ v = same-value e in
    (rw (runs_zero above sent v, ← same_place e) (stands-none l p), omega arith)
run_back (suc n) above sent l p q v e =
    let x = onward-value (unary_at (run_class above sent) 0 (flog (suc n) + 1) l p) _ (sym (run_at-some n above sent l p) ∙ e) in
    let a = (unary_code (run_class above sent) 0 (flog (suc n) + 1)).back l p x.1 x.0 x.2 in
    back_some (suc n) above sent (omega arith) l p q v x.1 x.0 a.1 a.0 x.3

pub run_code : (longest : ℕ) (above : Bool) (sent : ℕ) → Code (run_at longest above sent) (run_bins longest above sent) (λ v. v ≤ longest)
run_code longest above sent = record { there = λ l p q v. run_there longest above sent l p q v; back = λ l p q v. run_back longest above sent l p q v }
