-- The palette predictor after a block (8.4.4.2.7): the block's palette in order, then the old entries that were not reused, in order, while the size is below the limit.
use Rattle.std.specs.Prelude.{◌≡◌, Bool, true, false, ltb, take, drop, get_or}
use Rattle.std.proofs.Math.Path.{refl, sym}
use Rattle.std.proofs.Common.{◌∙◌, add-one, arith, drop_of_length-le, drop-cons, take_all}
use mathlib.Core.List.{List, [], ◌∷◌, ◌++◌, append_assoc, append-nil}
use Prim.Native.Nat.{ℕ, zero, suc, ◌+◌, ◌≤◌, ◌<◌}
use Rattle.std.proofs.Math.Nat.{min-le_left}
use borrow.Author.Tests.{ltb-true, ltb-false}
use Rattle.std.proofs.Math.ListN.{length, length-append, length-take}
use Rattle.std.proofs.Math.Seq.{take-append_seam, take-take}
use Rattle.base.specs.Alls.{all_append, all_take}
use Rattle.base.specs.Codes.{All}
use Rattle.base.specs.Pick.{pick, either}

-- the old entries that were not reused; missing flags count as false
unfoldable pub unreused : {A : Type 0} → List Bool → List A → List A
unreused [] old = old
unreused (f ∷ fs) [] = []
unreused (true ∷ fs) (x ∷ old) = unreused fs old
unreused (false ∷ fs) (x ∷ old) = x ∷ unreused fs old

unfoldable pub updated : {A : Type 0} → ℕ → List A → List Bool → List A → List A
updated limit palette flags old = take limit (palette ++ unreused flags old)

-- ---- laws

-- entries that join one by one while the size is below the limit
unfoldable pub joined : {A : Type 0} → ℕ → List A → List A → List A
joined limit xs [] = xs
joined {A = A} limit xs (y ∷ ys) = let more : List A = joined limit (xs ++ (y ∷ [])) ys in pick (ltb (length xs) limit) more xs

module _ {A : Type 0} where
  joined-take : (limit : ℕ) (xs ys : List A) → length xs ≤ limit → joined limit xs ys ≡ take limit (xs ++ ys)
  unfolding joined
  joined-take limit xs [] h = rw append-nil (sym (take_all limit xs h))
  joined-take limit xs (y ∷ ys) h =
      either (ltb (length xs) limit)
      (λ e.
      let l : length xs < limit = ltb-true _ _ e in
      let k : length (xs ++ (y ∷ [])) ≤ limit = rw length-append (omega arith) in
      rw e (joined-take limit (xs ++ (y ∷ [])) ys k ∙ rw append_assoc))
      (λ e.
      let l : limit ≡ length xs = omega (arith, ltb-false (length xs) limit e) in
      rw (e, l) (sym (take-append_seam xs (y ∷ ys))))

  -- the palette, then the rest one by one
  pub updated-joined : (limit : ℕ) (palette : List A) (flags : List Bool) (old : List A) → length palette ≤ limit → updated limit palette flags old ≡ joined limit palette (unreused flags old)
  unfolding updated
  updated-joined limit palette flags old h = sym (joined-take limit palette (unreused flags old) h)

  pub updated-length : (limit : ℕ) (palette : List A) (flags : List Bool) (old : List A) → length (updated limit palette flags old) ≤ limit
  unfolding updated
  updated-length limit palette flags old = rw length-take (min-le_left limit _)

  -- the palette stands first
  pub updated-first : (limit : ℕ) (palette : List A) (flags : List Bool) (old : List A) → length palette ≤ limit → take (length palette) (updated limit palette flags old) ≡ palette
  unfolding updated
  updated-first limit palette flags old h = take-take (length palette) limit _ h ∙ take-append_seam palette (unreused flags old)

  pub unreused-none : (flags : List Bool) (j : ℕ) (old : List A) → length old ≤ j → unreused (drop j flags) (drop j old) ≡ []
  unfolding unreused
  unreused-none flags j old h = rw (drop_of_length-le old {i = j} h) (none (drop j flags))
    where
      none : (fs : List Bool) → unreused {A = A} fs [] ≡ []
      none [] = refl
      none (f ∷ fs) = refl

  -- the flag at place j, and the rest
  flags-at : (flags : List Bool) (j : ℕ) (x : A) (old : List A) → unreused (drop j flags) (x ∷ old) ≡ pick (get_or flags j false) (unreused (drop (suc j) flags) old) (x ∷ unreused (drop (suc j) flags) old)
  unfolding unreused
  flags-at [] zero x old = refl
  flags-at [] (suc j) x old = refl
  flags-at (true ∷ fs) zero x old = refl
  flags-at (false ∷ fs) zero x old = refl
  flags-at (f ∷ fs) (suc j) x old = flags-at fs j x old

  -- the old entry at place j, and the rest
  pub unreused-at : (flags : List Bool) (j : ℕ) (old : List A) (d : A) → j < length old → unreused (drop j flags) (drop j old) ≡ pick (get_or flags j false) (unreused (drop (j + 1) flags) (drop (j + 1) old)) (get_or old j d ∷ unreused (drop (j + 1) flags) (drop (j + 1) old))
  unreused-at flags j old d h = rw (add-one j, drop-cons old j d h) (flags-at flags j (get_or old j d) (drop (suc j) old))

  -- what holds of each old entry holds of those that were not reused
  pub unreused-all : (Good : A → Type 0) (flags : List Bool) (old : List A) → All Good old → All Good (unreused flags old)
  unfolding unreused
  unreused-all Good [] old a = a
  unreused-all Good (f ∷ fs) [] a = tt
  unreused-all Good (true ∷ fs) (x ∷ old) a = unreused-all Good fs old a.1
  unreused-all Good (false ∷ fs) (x ∷ old) a = (a.0, unreused-all Good fs old a.1)

  pub updated-all : (Good : A → Type 0) (limit : ℕ) (palette : List A) (flags : List Bool) (old : List A) → All Good palette → All Good old → All Good (updated limit palette flags old)
  unfolding updated
  updated-all Good limit palette flags old a b = all_take Good limit _ (all_append Good palette _ a (unreused-all Good flags old b))
