-- The definition's answer as the code gives it, and back.
use Rattle.std.proofs.Math.Path.{◌≡◌, refl, ap, sym}
use Rattle.std.proofs.Common.{◌∙◌, arith}
use Rattle.std.specs.Prelude.{Bool, false, List, ◌++◌, ℕ, ◌-◌, ◌≤◌, replicate, Result, Ok, Err}
use Rattle.std.proofs.Math.ListN.{length, take}
use Rattle.std.proofs.Math.Seq.{take_at}
use Rattle.base.specs.Answer.{Answer, Value, Refused}
use Rattle.h265.specs.Reuse.{trues, reuse_at}
use Rattle.h265.proofs.ReuseLaws.{reuse_code}
use Rattle.refusal.specs.Refusal.{number_of}
use Rattle.refusal.specs.declared.Refused.{Refused as Refusal}
use Rattle.getreuse.specs.declared.Reuse.{Reuse}

-- the flags, with the number of those on and the place after the runs, or a refusal
pub record ReuseRead : Type 0 where
  pub got : Answer ℕ
  pub flags : List Bool

-- the code's answer, and the place after it; a refusal has no flag on
abbrev pub as_read : Result Reuse Refusal → ℕ → ReuseRead
as_read (Ok r) q = record { got = Value r.reused q; flags = r.flags }
as_read (Err r) q = record { got = Refused (number_of r.refusal) r.place; flags = replicate 128 false }

-- flags past the predictor's entries are off, and with a refusal all are
unfoldable pub read_of : Answer (List Bool) → ReuseRead
read_of (Value fs q) = record { got = Value (trues fs) q; flags = fs ++ replicate (128 - length fs) false }
read_of (Refused k q) = record { got = Refused k q; flags = replicate 128 false }

-- what a caller knows of a value
pub record Reused (limit count : ℕ) (l : List ℕ) (p : ℕ) (flags : List Bool) (v q : ℕ) : Type 0 where
  pub answer : reuse_at limit count l p ≡ Value (take count flags) q
  pub reused : v ≡ trues (take count flags)
  pub fits : v ≤ limit
  pub rest : flags ≡ take count flags ++ replicate (128 - count) false

module _ (limit count : ℕ) (l : List ℕ) (p : ℕ) (r : ReuseRead) (small : count ≤ 128) (e : r ≡ read_of (reuse_at limit count l p)) where
  pub value_read : (v q : ℕ) → r.got ≡ Value v q → Reused limit count l p r.flags v q
  unfolding read_of
  value_read v q g = of (reuse_at limit count l p) refl
    where
      of : (a : Answer (List Bool)) → reuse_at limit count l p ≡ a → Reused limit count l p r.flags v q
      of (Value fs t) h =
          let k = ((reuse_code limit count (omega arith)).back l p t fs h).1 in
          let z : r ≡ read_of (Value fs t) = e ∙ ap read_of h in
          let w : Value (trues fs) t ≡ Value v q = sym (ap (λ (x : ReuseRead). x.got) z) ∙ g in
          let y : take count r.flags ≡ fs = ap (λ (x : ReuseRead). take count x.flags) z ∙ take_at fs (replicate (128 - length fs) false) count k.count in
          let a : trues fs ≡ v = cc in
          let b : t ≡ q = cc in
          record {
            answer = h ∙ rw (y, b);
            reused = rw y (sym a);
            fits = omega (arith, k.fits);
            rest = ap (λ (x : ReuseRead). x.flags) z ∙ rw (y, k.count);
          }
      of (Refused n t) h =
          let z : r ≡ read_of (Refused n t) = e ∙ ap read_of h in
          let w : Refused n t ≡ Value v q = sym (ap (λ (x : ReuseRead). x.got) z) ∙ g in
          let o : ◌≡◌ {A = ℕ} 0 1 = cc in
          absurd (omega arith)

  pub refused_read : (n q : ℕ) → r.got ≡ Refused n q → reuse_at limit count l p ≡ Refused n q
  unfolding read_of
  refused_read n q g = of (reuse_at limit count l p) refl
    where
      of : (a : Answer (List Bool)) → reuse_at limit count l p ≡ a → reuse_at limit count l p ≡ Refused n q
      of (Value fs t) h =
          let z : r ≡ read_of (Value fs t) = e ∙ ap read_of h in
          let w : Value (trues fs) t ≡ Refused n q = sym (ap (λ (x : ReuseRead). x.got) z) ∙ g in
          let o : ◌≡◌ {A = ℕ} 0 1 = cc in
          absurd (omega arith)
      of (Refused m t) h =
          let z : r ≡ read_of (Refused m t) = e ∙ ap read_of h in
          let w : Refused m t ≡ Refused n q = sym (ap (λ (x : ReuseRead). x.got) z) ∙ g in
          let a : m ≡ n = cc in
          let b : t ≡ q = cc in
          h ∙ rw (a, b)
