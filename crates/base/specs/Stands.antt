-- When a string of bins stands in a list: the one notion by which writer and reader meet.
use Rattle.std.specs.Prelude.{◌≡◌, refl, List, [], ◌++◌, ℕ, ◌+◌, length, drop}
use Rattle.std.proofs.Common.{ap, sym, ◌∙◌, append_assoc, add-zero, arith, length-append, drop-drop}
use Rattle.std.proofs.Math.Seq.{drop-append_seam}
use Rattle.base.specs.Answer.{Answer, Value}

-- the bins s stand in l at place p, and q is the place after them
pub record Stands (l : List ℕ) (p : ℕ) (s : List ℕ) (q : ℕ) : Type 0 where
  pub rest : List ℕ
  pub is : drop p l ≡ s ++ rest
  pub next : q ≡ p + length s

pub stands-none : (l : List ℕ) (p : ℕ) → Stands l p [] p
stands-none l p = record { rest = drop p l; is = refl; next = sym (add-zero p) }

pub none-stands : {l : List ℕ} {p q : ℕ} → Stands l p [] q → q ≡ p
none-stands {l} {p} {q} h = h.next ∙ add-zero p

pub after : {l s : List ℕ} {p q : ℕ} (h : Stands l p s q) → drop q l ≡ h.rest
after {l} {s} {p} {q} h = rw h.next (sym (drop-drop (length s) p l) ∙ rw h.is (drop-append_seam s h.rest))

pub join : {l s t : List ℕ} {p q r : ℕ} → Stands l p s q → Stands l q t r → Stands l p (s ++ t) r
join {l} {s} {t} {p} {q} {r} h k = record {
  rest = k.rest;
  is = h.is ∙ rw (append_assoc s t k.rest) (ap (λ (x : List ℕ). s ++ x) (sym (after h) ∙ k.is));
  next = rw length-append (omega (arith, h.next, k.next));
}

pub record Split (l : List ℕ) (p : ℕ) (s t : List ℕ) (r : ℕ) : Type 0 where
  pub mid : ℕ
  pub first : Stands l p s mid
  pub second : Stands l mid t r

pub split : {l : List ℕ} {p r : ℕ} (s t : List ℕ) → Stands l p (s ++ t) r → Split l p s t r
split {l} {p} {r} s t h =
    let f : Stands l p s (p + length s) = record { rest = t ++ h.rest; is = h.is ∙ append_assoc s t h.rest; next = refl } in
    record {
      mid = p + length s;
      first = f;
      second = record { rest = h.rest; is = after f; next = rw length-append at h.next ∙ omega arith };
    }

-- ---- a reader and a writer that undo one another

pub record Code {A : Type 0} (read : List ℕ → ℕ → Answer A) (bins : A → List ℕ) (Ok : A → Type 0) : Type 0 where
  pub there : (l : List ℕ) (p q : ℕ) (a : A) → Ok a → Stands l p (bins a) q → read l p ≡ Value a q
  pub back : (l : List ℕ) (p q : ℕ) (a : A) → read l p ≡ Value a q → Stands l p (bins a) q × Ok a
