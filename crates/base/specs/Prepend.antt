-- What was read before an answer with the rest: what a loop that reads a list keeps.
use Rattle.std.specs.Prelude.{◌≡◌, ℕ, ◌+◌, ◌<◌, length, take, set}
use Rattle.std.proofs.Math.Path.{refl, ap}
use Rattle.std.proofs.Common.{sym}
use mathlib.Core.List.{List, [], ◌∷◌, ◌++◌, append_assoc, append-nil}
use Rattle.base.specs.Answer.{Answer, Value, Refused}
use Rattle.base.specs.Counted.{push}

unfoldable pub prepend : {A : Type 0} → List A → Answer (List A) → Answer (List A)
prepend ds (Value xs q) = Value (ds ++ xs) q
prepend ds (Refused k q) = Refused k q

module _ {A : Type 0} where
  pub prepend-none : (a : Answer (List A)) → prepend [] a ≡ a
  unfolding prepend
  prepend-none (Value xs q) = refl
  prepend-none (Refused k q) = refl

  pub prepend-more : (ds es : List A) (a : Answer (List A)) → prepend ds (prepend es a) ≡ prepend (ds ++ es) a
  unfolding prepend
  prepend-more ds es (Value xs q) = ap (λ (x : List A). Value x q) (sym (append_assoc ds es xs))
  prepend-more ds es (Refused k q) = refl

  -- one more into an array with a count, and nothing more
  pub prepend-push : (xs : List A) (count : ℕ) (x : A) (a : Answer (List A)) → count < length xs → prepend (take (count + 1) (set xs count x)) a ≡ prepend (take count xs) (prepend (x ∷ []) a)
  prepend-push xs count x a h = rw (push xs count x h) (sym (prepend-more (take count xs) (x ∷ []) a))

  pub prepend-end : (ds : List A) (q : ℕ) → prepend ds (Value [] q) ≡ Value ds q
  unfolding prepend
  prepend-end ds q = ap (λ (x : List A). Value x q) (append-nil ds)
