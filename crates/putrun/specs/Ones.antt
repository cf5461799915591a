-- Ones, and the zero that follows unless they are the most.
use Rattle.std.specs.Prelude.{◌≡◌, refl, List, [], ◌∷◌, ◌++◌, ℕ, zero, suc, ◌+◌, ◌*◌, length}
use Rattle.std.proofs.Common.{ap, zero-add, suc-add, add-zero, add-suc}
use Rattle.h265.specs.Strings.{unary}

pub length-ones : (c : ℕ → ℕ) (i n : ℕ) → length (unary c i n n) ≡ n
unfolding unary
length-ones c i zero = refl
length-ones c i (suc n) = ap suc (length-ones c (suc i) n)

-- n ones before what follows them
ones_then : (c : ℕ → ℕ) (i n m v : ℕ) → unary c i (n + m) (n + v) ≡ unary c i n n ++ unary c (i + n) m v
unfolding unary
ones_then c i zero m v = rw (zero-add m, zero-add v, add-zero i)
ones_then c i (suc n) m v = rw (suc-add n m, suc-add n v, add-suc i n) (ap (λ (t : List ℕ). (c i * 2 + 1) ∷ t) (rw (suc-add i n) at (ones_then c (suc i) n m v)))

-- n ones of more than n: all of them, then a zero
pub stopped : (c : ℕ → ℕ) (i n m : ℕ) → unary c i (n + suc m) n ≡ unary c i n n ++ (c (i + n) * 2 ∷ [])
unfolding unary
stopped c i n m = rw add-zero at (ones_then c i n (suc m) 0)
