-- A fixed array with a count: its first `count` elements as a list. Push, read on, end.
use Rattle.std.specs.Prelude.{◌≡◌, List, [], ◌∷◌, ◌++◌, ℕ, ◌+◌, ◌≤◌, ◌<◌, length, take, drop, get_or, set}
use Rattle.std.proofs.Common.{arith, add-one, drop_of_length-le, drop-cons, get_or-take, length-take-le, take-suc-set}

module _ {A : Type 0} (xs : List A) (count : ℕ) where
  pub push : (a : A) → count < length xs → take (count + 1) (set xs count a) ≡ take count xs ++ (a ∷ [])
  push a h = rw (add-one count) (take-suc-set xs count a h)

  pub read : (i : ℕ) (d : A) → i < count → count ≤ length xs → drop i (take count xs) ≡ get_or xs i d ∷ drop (i + 1) (take count xs)
  read i d h o =
      rw (add-one i, drop-cons (take count xs) i d (omega (arith, length-take-le count xs o)), get_or-take count xs i d h)

  pub end : (i : ℕ) → count ≤ i → count ≤ length xs → drop i (take count xs) ≡ []
  end i h o = drop_of_length-le (take count xs) {i = i} (omega (arith, length-take-le count xs o))
