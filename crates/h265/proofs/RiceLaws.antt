-- Both laws of num_palette_indices_minus1.
use Rattle.std.specs.Prelude.{◌≡◌, refl, Bool, true, false, List, [], ◌∷◌, ◌++◌, ℕ, zero, suc, ◌+◌, ◌*◌, ◌-◌, ◌/◌, ◌%◌, ◌^◌, ◌≤◌, ◌<◌, ltb}
use Rattle.std.proofs.Common.{ap, sym, ◌∙◌, mul-le-mul_right, mod-lt, div-lt_iff_lt-mul, zero-add, arith, pow_pos, lt-ltb, le-ltb, ltb-true, ltb-false}
use Rattle.std.proofs.Math.Pow.{pow-lt, high, low, split as pow-split}
use Rattle.base.specs.Pick.{pick}
use Rattle.base.specs.Answer.{Value, onward, onward-value, same-value, same_place}
use Rattle.base.specs.Stands.{Stands, join, split, Code}
use Rattle.h265.specs.Strings.{bits, egk, unary, bypass, rice, rice_of, count_bins}
use Rattle.h265.specs.Parse.{bits_at, ones_from, unary_at, rice_at, count_at}
use Rattle.h265.specs.StringLaws.{bits_mod}
use Rattle.h265.specs.BitLaws.{bits_code}
use Rattle.h265.specs.UnaryLaws.{unary_code}
use Rattle.h265.specs.EgkLaws.{ones-there, ones-back, ReadOnes}
use Rattle.h265.specs.RiceLaws.{InRice}

rice-low : (r v : ℕ) → v < 4 * 2 ^ r → rice r v ≡ unary bypass 0 4 (v / 2 ^ r) ++ bits r (v % 2 ^ r)
unfolding rice
rice-low r v h = rw (lt-ltb v (4 * 2 ^ r) h)

rice-high : (r v : ℕ) → 4 * 2 ^ r ≤ v → rice r v ≡ unary bypass 0 4 4 ++ egk (r + 1) (v - 4 * 2 ^ r)
unfolding rice
rice-high r v h = rw (le-ltb v (4 * 2 ^ r) h)

rice-there : (r : ℕ) (l : List ℕ) (p q v : ℕ) → InRice r v → Stands l p (rice r v) q → rice_at r l p ≡ Value v q
unfolding rice_at
rice-there r l p q v o s = go (ltb v (4 * 2 ^ r)) refl
  where
    go : (t : Bool) → ltb v (4 * 2 ^ r) ≡ t → rice_at r l p ≡ Value v q
    go true t =
        let c : v < 4 * 2 ^ r = ltb-true v (4 * 2 ^ r) t in
        let w = split (unary bypass 0 4 (v / 2 ^ r)) (bits r (v % 2 ^ r)) (rw (rice-low r v c) at s) in
        let d : v / 2 ^ r < 4 = (div-lt_iff_lt-mul (pow_pos r)).1 c in
        let e : v / 2 ^ r ≤ 4 = omega arith in
        rw ((unary_code bypass 0 4).there l p w.mid (v / 2 ^ r) e w.first, lt-ltb (v / 2 ^ r) 4 d, (bits_code r).there l w.mid q (v % 2 ^ r) (mod-lt v (pow_pos r)) w.second, pow-split v r)
    go false t =
        let c : 4 * 2 ^ r ≤ v = ltb-false v (4 * 2 ^ r) t in
        let w = split (unary bypass 0 4 4) (egk (r + 1) (v - 4 * 2 ^ r)) (rw (rice-high r v c) at s) in
        let x : 4 * 2 ^ r + (0 + (v - 4 * 2 ^ r)) ≡ v = omega arith in
        rw ((unary_code bypass 0 4).there l p w.mid 4 (omega arith) w.first, ones-there 16 p (r + 1) 0 (v - 4 * 2 ^ r) l w.mid q o w.second, x)

abbrev Stood : ℕ → List ℕ → ℕ → ℕ → ℕ → Type 0
Stood r l p q v = Stands l p (rice r v) q × InRice r v

low-back : (r h x : ℕ) (l : List ℕ) (p m q v : ℕ) → h < 4 → Stands l p (unary bypass 0 4 h) m → Stands l m (bits r x) q → x < 2 ^ r → h * 2 ^ r + x ≡ v → Stood r l p q v
low-back r h x l p m q v c a b d e =
    let o : h + 1 ≤ 4 = omega arith in
    let k : (h + 1) * 2 ^ r ≤ 4 * 2 ^ r = mul-le-mul_right (2 ^ r) o in
    let y : v < 4 * 2 ^ r = omega arith in
    let f : v / 2 ^ r ≡ h = rw (← e) (high h r d) in
    let g : v % 2 ^ r ≡ x = rw (← e) (low h r d) in
    let z : v - 4 * 2 ^ r ≡ 0 = omega arith in
    let u : r + 1 < r + 1 + 17 = omega arith in
    (rw (rice-low r v y, f, g) (join a b), rw (z, zero-add) (pow-lt u))

high-back : (r h : ℕ) (l : List ℕ) (p m q v w : ℕ) → h ≡ 4 → Stands l p (unary bypass 0 4 h) m → ReadOnes 16 (r + 1) 0 l m w q → 4 * 2 ^ r + w ≡ v → Stood r l p q v
high-back r h l p m q v w c a i e =
    let y : 4 * 2 ^ r ≤ v = omega arith in
    let z : i.v ≡ v - 4 * 2 ^ r = omega (arith, i.value) in
    (rw (rice-high r v y) (join (rw c at a) (rw z at i.stands)), rw z at i.range)

rice-back : (r : ℕ) (l : List ℕ) (p q v : ℕ) → rice_at r l p ≡ Value v q → Stood r l p q v
unfolding rice_at
rice-back r l p q v e =
    let x = onward-value (unary_at bypass 0 4 l p) _ e in
    go x.0 x.1 (ltb x.0 4) refl ((unary_code bypass 0 4).back l p x.1 x.0 x.2) x.3
  where
    go : (h m : ℕ) (t : Bool) → ltb h 4 ≡ t → Stands l p (unary bypass 0 4 h) m × (h ≤ 4) → pick t (onward (bits_at r l m) (λ v t. Value (h * 2 ^ r + v) t)) (onward (ones_from 16 p (r + 1) 0 l m) (λ v t. Value (4 * 2 ^ r + v) t)) ≡ Value v q → Stood r l p q v
    go h m true t a f =
        let y = onward-value (bits_at r l m) _ f in
        let b = (bits_code r).back l m y.1 y.0 y.2 in
        low-back r h y.0 l p m q v (ltb-true h 4 t) a.0 (rw (same_place y.3) at b.0) b.1 (same-value y.3)
    go h m false t a f =
        let y = onward-value (ones_from 16 p (r + 1) 0 l m) _ f in
        let c : h ≡ 4 = omega (arith, ltb-false h 4 t, a.1) in
        high-back r h l p m q v y.0 c a.0 (rw (same_place y.3) at (ones-back 16 p (r + 1) 0 l m y.0 y.1 y.2)) (same-value y.3)

pub rice_code : (r : ℕ) → Code (rice_at r) (rice r) (λ v. InRice r v)
rice_code r = record { there = λ l p q v. rice-there r l p q v; back = λ l p q v. rice-back r l p q v }

pub count_code : (m : ℕ) → Code (count_at m) (count_bins m) (λ v. InRice (rice_of m) v)
unfolding count_at count_bins
count_code m = rice_code (rice_of m)

-- ---- the string over what a writer holds: p is 2^R, and the low bits need no mask

module _ (m v p : ℕ) (e : p ≡ 2 ^ rice_of m) where
  pub count_low : v < 4 * p → count_bins m v ≡ unary bypass 0 4 (v / p) ++ bits (rice_of m) v
  unfolding count_bins
  count_low h = rw (e, rice-low (rice_of m) v (rw e at h), bits_mod (rice_of m) v)

  pub count-high : 4 * p ≤ v → count_bins m v ≡ unary bypass 0 4 4 ++ egk (rice_of m + 1) (v - 4 * p)
  unfolding count_bins
  count-high h = rw (e, rice-high (rice_of m) v (rw e at h))

-- the prefix as one number's bits
pub four-few : (v : ℕ) → v < 4 → unary bypass 0 4 v ≡ bits (v + 1) (2 ^ (v + 1) - 2)
unfolding unary bits
four-few zero h = refl
four-few (suc zero) h = refl
four-few (suc (suc zero)) h = refl
four-few (suc (suc (suc zero))) h = refl
four-few (suc (suc (suc (suc v)))) h = absurd (omega arith)

pub four-all : unary bypass 0 4 4 ≡ bits 4 15
unfolding unary bits
four-all = refl
