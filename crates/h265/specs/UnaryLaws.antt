-- Both laws of truncated unary.
use Rattle.std.specs.Prelude.{◌≡◌, refl, Bool, true, false, List, [], ◌∷◌, ◌++◌, ℕ, zero, suc, ◌+◌, ◌*◌, ◌≤◌, ◌<◌}
use Rattle.std.proofs.Common.{ap, sym, ◌∙◌, arith}
use Rattle.base.specs.Pick.{pick}
use Rattle.base.specs.Answer.{Answer, Value, Refused, onward, onward-value, refused_not, same-value, same_place}
use Rattle.base.specs.Stands.{Stands, stands-none, none-stands, join, split, Code}
use Rattle.h265.specs.Strings.{bit, bin_of, unary}
use Rattle.h265.specs.Parse.{bin_at, unary_at}
use Rattle.h265.specs.BitLaws.{bin_there, bin_back}

unary-there : (c : ℕ → ℕ) (i m : ℕ) (l : List ℕ) (p q v : ℕ) → v ≤ m → Stands l p (unary c i m v) q → unary_at c i m l p ≡ Value v q
unfolding unary unary_at
unary-there c i zero l p q v h s = let z : v ≡ 0 = omega arith in rw (z, none-stands s)
unary-there c i (suc m) l p q zero h s =
    let z : c i * 2 ≡ c i * 2 + 0 = omega arith in
    let t : Stands l p (bin_of (c i) false) q = rw z at s in
    rw (bin_there (c i) l p q false t)
unary-there c i (suc m) l p q (suc v) h s =
    let w = split ((c i * 2 + 1) ∷ []) (unary c (suc i) m v) s in
    rw (bin_there (c i) l p w.mid true w.first, unary-there c (suc i) m l w.mid q v (omega arith) w.second)

unary-back : (c : ℕ → ℕ) (i m : ℕ) (l : List ℕ) (p q v : ℕ) → unary_at c i m l p ≡ Value v q → Stands l p (unary c i m v) q × (v ≤ m)
unfolding unary unary_at
unary-back c i zero l p q v e = let z : 0 ≡ v = same-value e in (rw (← same_place e) (stands-none l p), omega arith)
unary-back c i (suc m) l p q v e =
    let x = onward-value (bin_at (c i) l p) _ e in
    step x.0 x.1 (bin_back (c i) l p x.1 x.0 x.2) x.3 (λ w. unary-back c (suc i) m l x.1 q w)
  where
    step : (b : Bool) (r : ℕ) → Stands l p (bin_of (c i) b) r → pick b (onward (unary_at c (suc i) m l r) (λ v t. Value (suc v) t)) (Value 0 r) ≡ Value v q → ((w : ℕ) → unary_at c (suc i) m l r ≡ Value w q → Stands l r (unary c (suc i) m w) q × (w ≤ m)) → Stands l p (unary c i (suc m) v) q × (v ≤ suc m)
    step true r s e ih =
        let y = onward-value (unary_at c (suc i) m l r) _ e in
        let f : y.1 ≡ q = same_place y.3 in
        let g : suc y.0 ≡ v = same-value y.3 in
        let k = ih y.0 (rw f at y.2) in
        rw (← g) (join s k.0, omega (arith, k.1))
    step false r s e ih =
        let g : 0 ≡ v = same-value e in
        let z : c i * 2 + 0 ≡ c i * 2 = omega arith in
        rw (← g, ← same_place e) (rw z at s, omega arith)

pub unary_code : (c : ℕ → ℕ) (i m : ℕ) → Code (unary_at c i m) (unary c i m) (λ v. v ≤ m)
unary_code c i m = record { there = λ l p q v. unary-there c i m l p q v; back = λ l p q v. unary-back c i m l p q v }
