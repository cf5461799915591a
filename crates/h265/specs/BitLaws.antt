-- Both laws of one bin and of fixed-length values.
use Rattle.std.specs.Prelude.{◌≡◌, refl, Bool, true, false, List, [], ◌∷◌, ◌++◌, ℕ, zero, suc, ◌+◌, ◌*◌, ◌-◌, ◌/◌, ◌%◌, ◌^◌, ◌≤◌, ◌<◌, ltb, eqb, length, get_or, drop}
use Rattle.std.proofs.Common.{ap, sym, ◌∙◌, mul-le-mul_right, mod-lt, mod-eq_of_lt, add-zero, add_comm, add-one, arith, pow_pos, length-drop, drop_of_length-le, drop-cons, get_or-drop, lt-ltb, ltb-true, ltb-false, eq-eqb, ne_eqb, eqb-true}
use Rattle.std.proofs.Math.Nat.{mod-one, mul-add-div_right, mul-add-mod_self_right}
use Rattle.std.proofs.lemmas.Nat.{mod-pow-add}
use Rattle.std.proofs.Math.Pow.{high}
use Rattle.base.specs.Pick.{pick, either}
use Rattle.base.specs.Answer.{Answer, Value, Refused, onward, onward-value, refused_not, same-value, same_place}
use Rattle.base.specs.Stands.{Stands, stands-none, none-stands, join, split, Code}
use Rattle.h265.specs.Strings.{bit, bin_of, bits, marker}
use Rattle.h265.specs.StringLaws.{length-bits, bits-low}
use Rattle.h265.specs.Parse.{bin_at, marker_at, bits_from, bits_at}

-- ---- one bin

pub record Byte (l : List ℕ) (p b q : ℕ) : Type 0 where
  pub inside : p < length l
  pub is : get_or l p 0 ≡ b
  pub next : q ≡ p + 1

pub byte-there : {l : List ℕ} {p b q : ℕ} → Stands l p (b ∷ []) q → Byte l p b q
byte-there {l} {p} {b} {q} h =
    let e : length (drop p l) ≡ suc (length h.rest) = ap length h.is in
    let n : p < length l = omega (arith, length-drop p l) in
    let i : get_or (drop p l) 0 0 ≡ b = ap (λ (x : List ℕ). get_or x 0 0) h.is in
    record { inside = n; is = rw (get_or-drop, add-zero) at i; next = h.next }

pub byte-back : {l : List ℕ} {p b q : ℕ} → Byte l p b q → Stands l p (b ∷ []) q
byte-back {l} {p} {b} {q} h =
    let i : p < length l = h.inside in
    record { rest = drop (suc p) l; is = drop-cons l p 0 i ∙ rw h.is; next = h.next }

pub bin_there : (c : ℕ) (l : List ℕ) (p q : ℕ) (b : Bool) → Stands l p (bin_of c b) q → bin_at c l p ≡ Value b q
unfolding bin_at
bin_there c l p q true h =
    let y : Byte l p (c * 2 + 1) q = byte-there h in
    rw (lt-ltb _ _ y.inside, y.is, eq-eqb (c * 2 + 1) (c * 2 + 1) refl, y.next)
bin_there c l p q false h =
    let y : Byte l p (c * 2 + 0) q = byte-there h in
    let z : get_or l p 0 ≡ c * 2 = y.is ∙ omega arith in
    let o : c * 2 ≡ c * 2 + 1 → ⊥ = λ w. omega arith in
    rw (lt-ltb _ _ y.inside, z, ne_eqb _ _ o, eq-eqb (c * 2) (c * 2) refl, y.next)

pub bin_back : (c : ℕ) (l : List ℕ) (p q : ℕ) (b : Bool) → bin_at c l p ≡ Value b q → Stands l p (bin_of c b) q
unfolding bin_at
bin_back c l p q b e = go (ltb p (length l)) (eqb (get_or l p 0) (c * 2 + 1)) (eqb (get_or l p 0) (c * 2)) refl refl refl e
  where
    go : (t u v : Bool) → ltb p (length l) ≡ t → eqb (get_or l p 0) (c * 2 + 1) ≡ u → eqb (get_or l p 0) (c * 2) ≡ v → pick t (pick u (Value true (p + 1)) (pick v (Value false (p + 1)) (Refused 11 p))) (Refused 10 p) ≡ Value b q → Stands l p (bin_of c b) q
    go true true v x y z e =
        rw (← same-value e) (byte-back (record { inside = ltb-true _ _ x; is = eqb-true _ _ y; next = sym (same_place e) }))
    go true false true x y z e =
        rw (← same-value e) (byte-back (record { inside = ltb-true _ _ x; is = eqb-true _ _ z ∙ omega arith; next = sym (same_place e) }))
    go true false false x y z e = absurd (refused_not e)
    go false u v x y z e = absurd (refused_not e)

-- ---- fixed length

pub bit_below : (b : Bool) → bit b < 2
bit_below true = omega arith
bit_below false = omega arith

pub bit-of : (x : ℕ) → x < 2 → (b : Bool) × (bit b ≡ x)
bit-of zero h = (false, refl)
bit-of (suc zero) h = (true, refl)
bit-of (suc (suc x)) h = absurd (omega arith)

one_more : (b : Bool) → 0 * 2 + bit b ≡ bit b
one_more b = omega arith

pub bits-there : (n a v : ℕ) (l : List ℕ) (p q : ℕ) → Stands l p (bits n v) q → bits_from n a l p ≡ Value (a * 2 ^ n + v % 2 ^ n) q
unfolding bits_from bits
bits-there zero a v l p q h = rw (none-stands h, mod-one v) (ap (λ (x : ℕ). Value x p) (omega arith))
bits-there (suc n) a v l p q h =
    let s = split (v / 2 ^ n % 2 ∷ []) (bits n v) h in
    let b = bit-of (v / 2 ^ n % 2) (omega arith) in
    step b.0 b.1 s.mid s.first (bits-there n (a * 2 + bit b.0) v l s.mid q s.second)
  where
    step : (b : Bool) → bit b ≡ v / 2 ^ n % 2 → (m : ℕ) → Stands l p (v / 2 ^ n % 2 ∷ []) m → bits_from n (a * 2 + bit b) l m ≡ Value ((a * 2 + bit b) * 2 ^ n + v % 2 ^ n) q → bits_from (suc n) a l p ≡ Value (a * 2 ^ suc n + v % 2 ^ suc n) q
    step b d m f ih =
        let g : 0 * 2 + bit b ≡ v / 2 ^ n % 2 = omega arith in
        let y : 2 ^ suc n ≡ 2 * 2 ^ n = omega arith in
        let z : v % 2 ^ suc n ≡ v / 2 ^ n % 2 * 2 ^ n + v % 2 ^ n = rw (← add-one n, add_comm n 1) (mod-pow-add v 1 n) in
        let e : (a * 2 + bit b) * 2 ^ n + v % 2 ^ n ≡ a * 2 ^ suc n + v % 2 ^ suc n = rw (z, y, d) (omega arith) in
        rw (bin_there 0 l p m b (rw g f)) (ih ∙ rw e)

pub record ReadBits (n a : ℕ) (l : List ℕ) (p v q : ℕ) : Type 0 where
  pub low : ℕ
  pub small : low < 2 ^ n
  pub value : v ≡ a * 2 ^ n + low
  pub stands : Stands l p (bits n low) q

pub bits_back : (n a : ℕ) (l : List ℕ) (p v q : ℕ) → bits_from n a l p ≡ Value v q → ReadBits n a l p v q
unfolding bits_from bits
bits_back zero a l p v q e = record { low = 0; small = omega arith; value = (let f : a ≡ v = same-value e in omega arith); stands = rw (← same_place e) (stands-none l p) }
bits_back (suc n) a l p v q e =
    let x = onward-value (bin_at 0 l p) _ e in
    step x.0 x.1 (bin_back 0 l p x.1 x.0 x.2) (bits_back n (a * 2 + bit x.0) l x.1 v q x.3)
  where
    step : (b : Bool) (m : ℕ) → Stands l p (bin_of 0 b) m → ReadBits n (a * 2 + bit b) l m v q → ReadBits (suc n) a l p v q
    step b m f r =
        let o : bit b ≤ 1 = omega (arith, bit_below b) in
        let k : bit b * 2 ^ n ≤ 1 * 2 ^ n = mul-le-mul_right (2 ^ n) o in
        let y : 2 ^ suc n ≡ 2 * 2 ^ n = omega arith in
        let d : (bit b * 2 ^ n + r.low) / 2 ^ n ≡ bit b = high (bit b) n r.small in
        let g : bit b ≡ 0 * 2 + bit b = omega arith in
        let s : Stands l p (bit b ∷ []) m = rw g f in
        record {
          low = bit b * 2 ^ n + r.low;
          small = omega (arith, r.small);
          value = rw y (omega (arith, r.value));
          stands = rw (d, mod-eq_of_lt (bit_below b), bits-low n (bit b) r.low) (join s r.stands);
        }

pub bits_code : (n : ℕ) → Code (bits_at n) (bits n) (λ v. v < 2 ^ n)
bits_code n = record {
  there = λ l p q v h s. bits-there n 0 v l p q s ∙ rw (mod-eq_of_lt h) (ap (λ (x : ℕ). Value x q) (omega arith));
  back = λ l p q v e. out l p q v (bits_back n 0 l p v q e);
}
  where
    out : (l : List ℕ) (p q v : ℕ) → ReadBits n 0 l p v q → Stands l p (bits n v) q × (v < 2 ^ n)
    out l p q v r =
        let z : r.low ≡ v = omega (arith, r.value) in
        (rw (← z) r.stands, rw (← z) r.small)

pub bin_code : (c : ℕ) → Code (bin_at c) (bin_of c) (λ b. Unit {0})
bin_code c = record { there = λ l p q b u s. bin_there c l p q b s; back = λ l p q b e. (bin_back c l p q b e, tt) }

pub marker_code : Code marker_at (λ u. marker) (λ u. Unit {0})
unfolding marker_at
marker_code = record {
  there = λ l p q u ok s.
      let y : Byte l p 22 q = byte-there s in
      rw (lt-ltb p (length l) y.inside, y.is, y.next);
  back = λ l p q u e.
      either (ltb p (length l))
      (λ a. either (eqb (get_or l p 0) 22)
      (λ b. (byte-back (record { inside = ltb-true p (length l) a; is = eqb-true (get_or l p 0) 22 b; next = sym (same_place (rw (a, b) at e)) }), tt))
      (λ b. absurd (refused_not (rw (a, b) at e))))
      (λ a. absurd (refused_not (rw a at e)));
}
