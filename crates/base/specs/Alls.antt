-- What holds of each element of a list.
use Rattle.std.specs.Prelude.{List, [], ◌∷◌, ◌++◌, map, ℕ, zero, suc, ◌<◌, length, take, drop, get_or}
use Rattle.std.proofs.Common.{arith}
use Rattle.base.specs.Codes.{All}

module _ {A : Type 0} (Good : A → Type 0) where
  -- by places, and at a place
  pub all_by : (xs : List A) (d : A) → ((i : ℕ) → i < length xs → Good (get_or xs i d)) → All Good xs
  all_by [] d h = tt
  all_by (x ∷ xs) d h = (h 0 (omega arith), all_by xs d (λ i l. h (suc i) (omega arith)))

  pub all-at : (xs : List A) (d : A) → All Good xs → (i : ℕ) → i < length xs → Good (get_or xs i d)
  all-at [] d a i h = absurd (omega arith)
  all-at (x ∷ xs) d a zero h = a.0
  all-at (x ∷ xs) d a (suc i) h = all-at xs d a.1 i (omega arith)

  pub all_append : (xs ys : List A) → All Good xs → All Good ys → All Good (xs ++ ys)
  all_append [] ys a b = b
  all_append (x ∷ xs) ys a b = (a.0, all_append xs ys a.1 b)

  pub all_take : (n : ℕ) (xs : List A) → All Good xs → All Good (take n xs)
  all_take zero xs a = tt
  all_take (suc n) [] a = tt
  all_take (suc n) (x ∷ xs) a = (a.0, all_take n xs a.1)

  pub all_drop : (n : ℕ) (xs : List A) → All Good xs → All Good (drop n xs)
  all_drop zero xs a = a
  all_drop (suc n) [] a = tt
  all_drop (suc n) (x ∷ xs) a = all_drop n xs a.1

-- of a function of each
pub all_map : {A B : Type 0} (Good : B → Type 0) (f : A → B) (xs : List A) → All (λ x. Good (f x)) xs → All Good (map f xs)
all_map Good f [] a = tt
all_map Good f (x ∷ xs) a = (a.0, all_map Good f xs a.1)
