-- A part of a list, written whole.
use Rattle.std.proofs.Common.{◌≡◌, ℕ, ◌+◌, ◌-◌, ◌≤◌, ◌<◌, List, ◌++◌, length, take, drop, get_or, sym, ◌∙◌, ap, ⊎_elim, arith, length-append, length-drop, length-take-le, get_or-take, ext_get_or}
use Rattle.std.proofs.Math.ListN.{get_or-append}
use Rattle.std.proofs.lemmas.List.{get_or-drop, get_or-append_right}
use Rattle.base.specs.Pick.{lt_or_le}
use Rattle.base.specs.Cells.{laid, laid-length, laid-before, laid_in, laid-after}

module _ (f : ℕ → ℕ) (l items : List ℕ) (a k : ℕ) (fits : a + k ≤ length l) (long : length items ≡ k) where
  front : length (take a l) ≡ a
  front = length-take-le a l (omega arith)

  -- k places from a on, each f of the place
  pub laid_part : ((j : ℕ) → j < k → get_or items j 0 ≡ f (a + j)) → take a l ++ (items ++ drop k (drop a l)) ≡ laid f l a k
  laid_part h =
      ext_get_or 0 _ _ (simp (length-append, length-drop) (omega (arith, front, laid-length f l a k)))
      (λ p m.
      ⊎_elim
      (λ (z : p < a). get_or-append (take a l) _ 0 p (omega (arith, front)) ∙ get_or-take a l p 0 z ∙ sym (laid-before f l a k p 0 z))
      (λ (z : a ≤ p).
      get_or-append_right (take a l) _ a p 0 front z
      ∙ ⊎_elim
      (λ (t : p < a + k).
      let e : a + (p - a) ≡ p = omega arith in
      get_or-append items _ 0 (p - a) (omega arith) ∙ h (p - a) (omega arith) ∙ ap f e ∙ sym (laid_in f l a k p 0 z t fits))
      (λ (t : a + k ≤ p).
      let e : a + (k + (p - a - k)) ≡ p = omega arith in
      get_or-append_right items _ k (p - a) 0 long (omega arith)
      ∙ get_or-drop k (drop a l) (p - a - k) 0
      ∙ get_or-drop a l (k + (p - a - k)) 0
      ∙ ap (λ (q : ℕ). get_or l q 0) e
      ∙ sym (laid-after f l a k p 0 t))
      (lt_or_le p (a + k)))
      (lt_or_le p a))
