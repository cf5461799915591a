-- A list with records laid on its front, and what becomes of its places.
use Rattle.std.specs.Prelude.{◌≡◌, ℕ, suc, ◌+◌, ◌≤◌, ◌<◌, length, get_or}
use Rattle.std.proofs.Math.Path.{refl, ap, sym}
use Rattle.std.proofs.Common.{◌∙◌, le_of_lt, add-one, arith, take-suc, drop-cons}
use mathlib.Core.List.{List, ◌++◌}
use Rattle.std.proofs.Math.ListN.{take, drop, set, length-append, length-drop}
use Rattle.std.proofs.Math.Seq.{length-take-le, set_at, append_snoc, take_at, drop_at}

-- the first n of xs, and then what stood there
unfoldable pub laid_on : {A : Type 0} → List A → List A → ℕ → List A
laid_on l xs n = take n xs ++ drop n l

module _ {A : Type 0} (l xs : List A) where
  -- laying none changes nothing
  pub laid_none : laid_on l xs 0 ≡ l
  unfolding laid_on
  laid_none = refl

  pub laid-length : (n : ℕ) → n ≤ length xs → n ≤ length l → length (laid_on l xs n) ≡ length l
  unfolding laid_on
  laid-length n hx hl = omega (arith, length-append (take n xs) (drop n l), length-take-le n xs hx, length-drop n l)

  -- one record more
  pub laid_next : (i : ℕ) (d : A) → i < length xs → i < length l → set (laid_on l xs i) i (get_or xs i d) ≡ laid_on l xs (i + 1)
  unfolding laid_on
  laid_next i d hx hl =
      ap (λ (r : List A). set (take i xs ++ r) i (get_or xs i d)) (drop-cons l i d hl)
      ∙ set_at (take i xs) (get_or l i d) (drop (suc i) l) (get_or xs i d) i (length-take-le i xs (le_of_lt hx))
      ∙ sym (append_snoc (take i xs) (get_or xs i d) (drop (suc i) l))
      ∙ ap (λ (r : List A). r ++ drop (suc i) l) (sym (take-suc xs i d hx))
      ∙ ap (λ (k : ℕ). take k xs ++ drop k l) (sym (add-one i))

  -- the records laid stand at the front
  pub laid-front : (n : ℕ) → n ≤ length xs → take n (laid_on l xs n) ≡ take n xs
  unfolding laid_on
  laid-front n hx = take_at (take n xs) (drop n l) n (length-take-le n xs hx)

  -- every place past them is as it was
  pub laid-past : (n : ℕ) → n ≤ length xs → drop n (laid_on l xs n) ≡ drop n l
  unfolding laid_on
  laid-past n hx = drop_at (take n xs) (drop n l) n (length-take-le n xs hx)
