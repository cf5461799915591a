-- Both laws of Exp-Golomb.
use Rattle.std.specs.Prelude.{◌≡◌, refl, Bool, true, false, List, [], ◌∷◌, ◌++◌, ℕ, zero, suc, ◌+◌, ◌*◌, ◌-◌, ◌^◌, ◌≤◌, ◌<◌, ltb}
use Rattle.std.proofs.Common.{ap, sym, ◌∙◌, arith, pow_pos, pow_mono, lt-ltb, le-ltb, ltb-true, ltb-false}
use Rattle.base.specs.Pick.{pick}
use Rattle.base.specs.Answer.{Answer, Value, Refused, onward, onward-value, refused_not, same-value, same_place}
use Rattle.base.specs.Stands.{Stands, stands-none, none-stands, join, split, Code}
use Rattle.h265.specs.Strings.{bit, bin_of, bits, egk}
use Rattle.base.specs.Powers.{pow_next}
use Rattle.h265.specs.StringLaws.{egk-last, egk-more}
use Rattle.h265.specs.Parse.{bin_at, bits_at, ones_from, egk_at, held}
use Rattle.h265.specs.BitLaws.{bin_there, bin_back, bits_code}

-- v has at most m ones in its prefix
abbrev pub Ones : ℕ → ℕ → ℕ → Type 0
Ones m k v = v + 2 ^ k < 2 ^ (k + suc m)

last : (m s k a v : ℕ) (l : List ℕ) (p q : ℕ) → v < 2 ^ k → Stands l p (egk k v) q → ones_from m s k a l p ≡ Value (a + v) q
unfolding ones_from
last m s k a v l p q h d =
    let w = split (bin_of 0 false) (bits k v) (rw (egk-last k v h) at d) in
    go m w.mid (bin_there 0 l p w.mid false w.first) ((bits_code k).there l w.mid q v h w.second)
  where
    go : (m t : ℕ) → bin_at 0 l p ≡ Value false t → bits_at k l t ≡ Value v q → ones_from m s k a l p ≡ Value (a + v) q
    go zero t e f = rw (e, f)
    go (suc m) t e f = rw (e, f)

pub ones-there : (m s k a v : ℕ) (l : List ℕ) (p q : ℕ) → Ones m k v → Stands l p (egk k v) q → ones_from m s k a l p ≡ Value (a + v) q
unfolding ones_from
ones-there zero s k a v l p q h d = last zero s k a v l p q (omega (arith, pow_next k)) d
ones-there (suc m) s k a v l p q h d = go (ltb v (2 ^ k)) refl (λ t. ones-there m s (suc k) (a + 2 ^ k) (v - 2 ^ k) l t q)
  where
    go : (t : Bool) → ltb v (2 ^ k) ≡ t → ((t : ℕ) → Ones m (suc k) (v - 2 ^ k) → Stands l t (egk (suc k) (v - 2 ^ k)) q → ones_from m s (suc k) (a + 2 ^ k) l t ≡ Value (a + 2 ^ k + (v - 2 ^ k)) q) → ones_from (suc m) s k a l p ≡ Value (a + v) q
    go true t ih = last (suc m) s k a v l p q (ltb-true v (2 ^ k) t) d
    go false t ih =
        let c : 2 ^ k ≤ v = ltb-false v (2 ^ k) t in
        let e : k + suc (suc m) ≡ suc k + suc m = omega arith in
        let f : v + 2 ^ k < 2 ^ (suc k + suc m) = rw e at h in
        let x : a + 2 ^ k + (v - 2 ^ k) ≡ a + v = omega arith in
        let w = split (bin_of 0 true) (egk (suc k) (v - 2 ^ k)) (rw (egk-more k v c) at d) in
        rw (bin_there 0 l p w.mid true w.first) (ih w.mid (omega arith) w.second ∙ rw x)

pub record ReadOnes (m k a : ℕ) (l : List ℕ) (p x q : ℕ) : Type 0 where
  pub v : ℕ
  pub range : Ones m k v
  pub value : x ≡ a + v
  pub stands : Stands l p (egk k v) q

stop : (m k a : ℕ) (l : List ℕ) (p x q r : ℕ) → Stands l p (bin_of 0 false) r → onward (bits_at k l r) (λ v t. Value (a + v) t) ≡ Value x q → ReadOnes m k a l p x q
stop m k a l p x q r s e =
    let y = onward-value (bits_at k l r) _ e in
    fin y.0 y.1 ((bits_code k).back l r y.1 y.0 y.2) (same-value y.3) (same_place y.3)
  where
    fin : (v t : ℕ) → Stands l r (bits k v) t × (v < 2 ^ k) → a + v ≡ x → t ≡ q → ReadOnes m k a l p x q
    fin v t b g f =
        let y : 2 ^ (k + 1) ≤ 2 ^ (k + suc m) = pow_mono {i = k + 1} {j = k + suc m} (omega arith) in
        record {
          v = v;
          range = omega (arith, b.1, pow_next k, y);
          value = sym g;
          stands = rw (egk-last k v b.1) (join s (rw f at b.0));
        }

pub ones-back : (m s k a : ℕ) (l : List ℕ) (p x q : ℕ) → ones_from m s k a l p ≡ Value x q → ReadOnes m k a l p x q
unfolding ones_from
ones-back zero s k a l p x q e =
    let y = onward-value (bin_at 0 l p) _ e in
    go y.0 y.1 (bin_back 0 l p y.1 y.0 y.2) y.3
  where
    go : (b : Bool) (r : ℕ) → Stands l p (bin_of 0 b) r → pick b (Refused 12 s) (onward (bits_at k l r) (λ v t. Value (a + v) t)) ≡ Value x q → ReadOnes zero k a l p x q
    go true r t e = absurd (refused_not e)
    go false r t e = stop zero k a l p x q r t e
ones-back (suc m) s k a l p x q e =
    let y = onward-value (bin_at 0 l p) _ e in
    go y.0 y.1 (bin_back 0 l p y.1 y.0 y.2) y.3 (ones-back m s (suc k) (a + 2 ^ k) l y.1 x q)
  where
    go : (b : Bool) (r : ℕ) → Stands l p (bin_of 0 b) r → pick b (ones_from m s (suc k) (a + 2 ^ k) l r) (onward (bits_at k l r) (λ v t. Value (a + v) t)) ≡ Value x q → (ones_from m s (suc k) (a + 2 ^ k) l r ≡ Value x q → ReadOnes m (suc k) (a + 2 ^ k) l r x q) → ReadOnes (suc m) k a l p x q
    go true r t e ih =
        let i : ReadOnes m (suc k) (a + 2 ^ k) l r x q = ih e in
        let w : 2 ^ k + i.v - 2 ^ k ≡ i.v = omega arith in
        let y : k + suc (suc m) ≡ suc k + suc m = omega arith in
        let c : 2 ^ k ≤ 2 ^ k + i.v = omega arith in
        record {
          v = 2 ^ k + i.v;
          range = rw y (omega (arith, i.range));
          value = omega (arith, i.value);
          stands = rw (egk-more k (2 ^ k + i.v) c, w) (join t i.stands);
        }
    go false r t e ih = stop (suc m) k a l p x q r t e

pub egk_code : (k : ℕ) → Code (egk_at k) (egk k) (λ v. Ones 16 k v)
unfolding egk_at
egk_code k = record {
  there = λ l p q v h s. ones-there 16 p k 0 v l p q h s ∙ ap (λ (x : ℕ). Value x q) (omega arith);
  back = λ l p q v e. out l p q v (ones-back 16 p k 0 l p v q e);
}
  where
    out : (l : List ℕ) (p q v : ℕ) → ReadOnes 16 k 0 l p v q → Stands l p (egk k v) q × Ones 16 k v
    out l p q v r = let z : r.v ≡ v = omega (arith, r.value) in (rw z at r.stands, rw z at r.range)

-- a code with a top: what is above is refused once it is read
pub held_code : {Ok : ℕ → Type 0} (read : List ℕ → ℕ → Answer ℕ) (bins : ℕ → List ℕ) (top : ℕ) → Code read bins Ok → Code (λ l p. held p top (read l p)) bins (λ v. Ok v × (v ≤ top))
unfolding held
held_code {Ok} read bins top c = record {
  there = λ l p q v h s. rw (c.there l p q v h.0 s, le-ltb top v h.1);
  back = λ l p q v e. go l p q v (read l p) refl e;
}
  where
    fin : (l : List ℕ) (p q v w r : ℕ) (t : Bool) → ltb top w ≡ t → read l p ≡ Value w r → pick t (Refused 12 p) (Value w r) ≡ Value v q → Stands l p (bins v) q × (Ok v × (v ≤ top))
    fin l p q v w r true i f e = absurd (refused_not e)
    fin l p q v w r false i f e =
        let x : w ≡ v = same-value e in
        let b = c.back l p q v (f ∙ e) in
        (b.0, (b.1, rw x at (ltb-false top w i)))

    go : (l : List ℕ) (p q v : ℕ) (g : Answer ℕ) → read l p ≡ g → held p top g ≡ Value v q → Stands l p (bins v) q × (Ok v × (v ≤ top))
    go l p q v (Value w r) f e = fin l p q v w r (ltb top w) refl f e
    go l p q v (Refused k r) f e = absurd (refused_not e)
