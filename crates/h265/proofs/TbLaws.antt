-- Both laws of truncated binary.
use Rattle.std.specs.Prelude.{◌≡◌, refl, Bool, true, false, List, [], ◌∷◌, ◌++◌, ℕ, zero, suc, ◌+◌, ◌*◌, ◌-◌, ◌/◌, ◌%◌, ◌^◌, ◌≤◌, ◌<◌, ltb}
use Rattle.std.proofs.Common.{ap, sym, ◌∙◌, arith, pow_pos, lt-ltb, le-ltb, ltb-true, ltb-false}
use Rattle.base.specs.Pick.{pick}
use Rattle.base.specs.Answer.{Value, onward, onward-value, same-value, same_place}
use Rattle.base.specs.Stands.{Stands, join, split, Code}
use Rattle.h265.specs.Strings.{bits, flog, short, tb}
use Rattle.base.specs.Powers.{pow_next}
use Rattle.h265.specs.StringLaws.{flog-low, flog-high, bits-last}
use Rattle.h265.specs.Parse.{bits_at, tb_at}
use Rattle.h265.specs.BitLaws.{bits_code}

-- what the alphabet's numbers say, in one place: 2^k ≤ n < 2^(k+1), and u is what is left
record Sizes (n : ℕ) : Type 0 where
  low : 2 ^ flog n ≤ n
  high : n < 2 ^ flog n + 2 ^ flog n
  is : short n + n ≡ 2 ^ flog n + 2 ^ flog n

sizes : (n : ℕ) → 1 ≤ n → Sizes n
sizes n h = record {
  low = flog-low n h;
  high = omega (arith, flog-high n h, pow_next (flog n));
  is = omega (arith, flog-high n h, pow_next (flog n));
}

pub tb-short : (n v : ℕ) → v < short n → tb n v ≡ bits (flog n) v
unfolding tb
tb-short n v h = rw (lt-ltb v (short n) h)

pub tb-long : (n v : ℕ) → short n ≤ v → tb n v ≡ bits (flog n) ((v + short n) / 2) ++ bits 1 ((v + short n) % 2)
unfolding tb
tb-long n v h = rw (le-ltb v (short n) h) (bits-last (flog n) (v + short n))

tb-there : (n : ℕ) (l : List ℕ) (p q v : ℕ) → v < n → Stands l p (tb n v) q → tb_at n l p ≡ Value v q
unfolding tb_at
tb-there n l p q v r h = go (ltb v (short n)) refl (sizes n (omega arith))
  where
    long : Sizes n → (w m : ℕ) → w ≡ v + short n → short n ≤ v → Stands l p (bits (flog n) (w / 2)) m → Stands l m (bits 1 (w % 2)) q → tb_at n l p ≡ Value v q
    long s w m e c a b =
        let d : w / 2 < 2 ^ flog n = omega (arith, s.low, s.high, s.is) in
        let f : short n ≤ w / 2 = omega arith in
        let x : w / 2 * 2 + w % 2 - short n ≡ v = omega arith in
        let o : w % 2 < 2 ^ 1 = omega arith in
        rw ((bits_code (flog n)).there l p m (w / 2) d a, le-ltb (w / 2) (short n) f, (bits_code 1).there l m q (w % 2) o b, x)

    go : (t : Bool) → ltb v (short n) ≡ t → Sizes n → tb_at n l p ≡ Value v q
    go true t s =
        let c : v < short n = ltb-true v (short n) t in
        let d : v < 2 ^ flog n = omega (arith, s.low, s.high, s.is) in
        rw ((bits_code (flog n)).there l p q v d (rw (tb-short n v c) at h), t)
    go false t s =
        let c : short n ≤ v = ltb-false v (short n) t in
        let i = split (bits (flog n) ((v + short n) / 2)) (bits 1 ((v + short n) % 2)) (rw (tb-long n v c) at h) in
        long s (v + short n) i.mid refl c i.first i.second

abbrev Stood : ℕ → List ℕ → ℕ → ℕ → ℕ → Type 0
Stood n l p q v = Stands l p (tb n v) q × (v < n)

long_case : (n : ℕ) (l : List ℕ) (p x r y q v : ℕ) → Sizes n → Stands l p (bits (flog n) x) r → x < 2 ^ flog n → short n ≤ x → Stands l r (bits 1 y) q → y < 2 → x * 2 + y - short n ≡ v → Stood n l p q v
long_case n l p x r y q v s a b c d o f =
    let w : v + short n ≡ x * 2 + y = omega arith in
    let g : (v + short n) / 2 ≡ x = omega arith in
    let m : (v + short n) % 2 ≡ y = omega arith in
    let k : short n ≤ v = omega arith in
    (rw (tb-long n v k, g, m) (join a d), omega (arith, s.low, s.high, s.is))

tb-back : (n : ℕ) (l : List ℕ) (p q v : ℕ) → 1 ≤ n → tb_at n l p ≡ Value v q → Stood n l p q v
unfolding tb_at
tb-back n l p q v h e =
    let x = onward-value (bits_at (flog n) l p) _ e in
    go x.0 x.1 (ltb x.0 (short n)) refl ((bits_code (flog n)).back l p x.1 x.0 x.2) x.3 (sizes n h)
  where
    go : (x r : ℕ) (z : Bool) → ltb x (short n) ≡ z → Stands l p (bits (flog n) x) r × (x < 2 ^ flog n) → pick z (Value x r) (onward (bits_at 1 l r) (λ b t. Value (x * 2 + b - short n) t)) ≡ Value v q → Sizes n → Stood n l p q v
    go x r true z b f s =
        let i : x ≡ v = same-value f in
        let c : x < short n = ltb-true x (short n) z in
        let g : Stood n l p r x = (rw (tb-short n x c) b.0, omega (arith, s.low, s.high, s.is, b.1)) in
        rw (i, same_place f) at g
    go x r false z b f s =
        let y = onward-value (bits_at 1 l r) _ f in
        let d = (bits_code 1).back l r y.1 y.0 y.2 in
        long_case n l p x r y.0 q v s b.0 b.1 (ltb-false x (short n) z) (rw (same_place y.3) at d.0) d.1 (same-value y.3)

pub tb_code : (n : ℕ) → 1 ≤ n → Code (tb_at n) (tb n) (λ v. v < n)
tb_code n h = record { there = λ l p q v. tb-there n l p q v; back = λ l p q v. tb-back n l p q v h }
