-- One turn of the reuse runs' parse, as a function's proof wants it: from what the code saw to what the definition says.
use Rattle.std.specs.Prelude.{◌≡◌, Bool, true, replicate}
use Rattle.std.proofs.Math.Path.{refl, ap}
use Rattle.std.proofs.Common.{sym, ◌∙◌, arith}
use Rattle.std.proofs.Math.Bool.{false}
use mathlib.Core.List.{List, [], ◌∷◌, ◌++◌, append_assoc}
use Prim.Native.Nat.{ℕ, zero, suc, ◌+◌, ◌-◌, ◌≤◌, ◌<◌}
use borrow.Author.Tests.{eq-eqb, ne_eqb, le-leb, lt-leb}
use Rattle.base.specs.Answer.{Answer, Value, Refused, onward}
use Rattle.base.specs.Prepend.{prepend}
use Rattle.h265.specs.Parse.{egk_at}
use Rattle.h265.specs.Reuse.{gap_of, reuse_at}

-- no room is left, or no entry
pub reuse_full : (room k : ℕ) (l : List ℕ) (p : ℕ) → room ≡ 0 → reuse_at room k l p ≡ Value (replicate k false) p
unfolding reuse_at
reuse_full room k l p e = rw e

pub reuse_all : (room k : ℕ) (l : List ℕ) (p : ℕ) → k ≡ 0 → reuse_at room k l p ≡ Value (replicate k false) p
unfolding reuse_at
reuse_all zero k l p e = refl
reuse_all (suc room) k l p e = rw e

-- there is room, j after this turn, and k entries are left
module _ (room j k : ℕ) (l : List ℕ) (p : ℕ) (e : room ≡ suc j) (h : 0 < k) where
  some : k ≡ 0 → ⊥
  some z = omega arith

  pub reuse_refused : (n q : ℕ) → egk_at 0 l p ≡ Refused n q → reuse_at room k l p ≡ Refused n q
  unfolding reuse_at
  reuse_refused n q f = rw (e, ne_eqb k 0 some, f)

  module _ (r q : ℕ) (f : egk_at 0 l p ≡ Value r q) where
    pub reuse_stop : r ≡ 1 → reuse_at room k l p ≡ Value (replicate k false) q
    unfolding reuse_at
    reuse_stop o = rw (e, ne_eqb k 0 some, f, eq-eqb r 1 o)

    pub reuse_past : (r ≡ 1 → ⊥) → k ≤ gap_of r → reuse_at room k l p ≡ Refused 12 p
    unfolding reuse_at
    reuse_past o g = rw (e, ne_eqb k 0 some, f, ne_eqb r 1 o, le-leb k (gap_of r) g)

    pub reuse_turn : (r ≡ 1 → ⊥) → gap_of r < k → reuse_at room k l p ≡ prepend (replicate (gap_of r) false ++ (true ∷ [])) (reuse_at j (k - suc (gap_of r)) l q)
    unfolding reuse_at prepend
    reuse_turn o g = rw (e, ne_eqb k 0 some, f, ne_eqb r 1 o, lt-leb k (gap_of r) g) (rest (reuse_at j (k - suc (gap_of r)) l q))
      where
        rest : (x : Answer (List Bool)) → onward x (λ fs t. Value (replicate (gap_of r) false ++ (true ∷ fs)) t) ≡ prepend (replicate (gap_of r) false ++ (true ∷ [])) x
        rest (Value fs t) = ap (λ (y : List Bool). Value y t) (sym (append_assoc (replicate (gap_of r) false) (true ∷ []) fs))
        rest (Refused n t) = refl
