-- One turn of a loop that reads a value for each of a list, and the alphabets that are left after k indices.
use Rattle.std.specs.Prelude.{◌≡◌, List, [], ◌∷◌, ℕ, zero, suc, ◌+◌, ◌-◌, ◌≤◌, ◌<◌, eqb, length, drop, replicate}
use Rattle.std.proofs.Math.Path.{refl}
use Rattle.std.proofs.Common.{add-one, arith, drop_of_length-le, drop-cons, ne_eqb}
use Rattle.std.proofs.lemmas.List.{length-replicate, get_or-replicate}
use Rattle.base.specs.Answer.{Answer, Value, Refused, onward}
use Rattle.base.specs.Codes.{each_at}
use Rattle.base.specs.Pick.{pick}
use Rattle.base.specs.Prepend.{prepend}
use Rattle.syntax.specs.Block.{alphabets}

module _ {X A : Type 0} (read : X → List ℕ → ℕ → Answer A) (all : List X) (x : X) (xs : List X) (l : List ℕ) (p : ℕ) (e : all ≡ x ∷ xs) where
  pub each_turn : (a : A) (q : ℕ) → read x l p ≡ Value a q → each_at read all l p ≡ prepend (a ∷ []) (each_at read xs l q)
  unfolding each_at prepend
  each_turn a q h = rw (e, h) (rest (each_at read xs l q))
    where
      rest : (y : Answer (List A)) → onward y (λ vs t. Value (a ∷ vs) t) ≡ prepend (a ∷ []) y
      rest (Value vs t) = refl
      rest (Refused k t) = refl

  pub each-refused : (k q : ℕ) → read x l p ≡ Refused k q → each_at read all l p ≡ Refused k q
  unfolding each_at
  each-refused k q h = rw (e, h)

pub each-end : {X A : Type 0} (read : X → List ℕ → ℕ → Answer A) (all : List X) (l : List ℕ) (p : ℕ) → all ≡ [] → each_at read all l p ≡ Value [] p
unfolding each_at
each-end read all l p e = rw e

pub alphabets-on : (m total k : ℕ) → k < total → drop k (alphabets m (total - 1)) ≡ pick (eqb k 0) (m + 1) m ∷ drop (k + 1) (alphabets m (total - 1))
alphabets-on m total zero h = refl
alphabets-on m total (suc k) h =
    rw (add-one (suc k), ne_eqb (suc k) 0 (λ z. omega arith), drop-cons (replicate (total - 1) m) k 0 (rw length-replicate (omega arith)), get_or-replicate (total - 1) k m 0 (omega arith))

pub alphabets-end : (m total k : ℕ) → 1 ≤ total → total ≤ k → drop k (alphabets m (total - 1)) ≡ []
alphabets-end m total k o h = drop_of_length-le (alphabets m (total - 1)) {i = k} (omega (arith, length-replicate (total - 1) m))
