-- Worked numbers of indices with their bins.
use Rattle.std.specs.Prelude.{◌≡◌, refl, Bool, true, false, List, [], ◌∷◌, map, ℕ}

-- M and the number of indices less 1: M = 1 and 6 have R = 3, M = 7 has R = 4; from 4 × 2^R on four ones and EG(R + 1) of the rest
pub record Count : Type 0 where
  pub m : ℕ
  pub v : ℕ
  pub bins : List ℕ

abbrev count : ℕ → ℕ → List ℕ → Count
count m v s = record { m = m; v = v; bins = s }

unfoldable pub counted : List Count
counted =
    count 1 1 (0 ∷ 0 ∷ 0 ∷ 1 ∷ [])
    ∷ count 6 13 (1 ∷ 0 ∷ 1 ∷ 0 ∷ 1 ∷ [])
    ∷ count 7 13 (0 ∷ 1 ∷ 1 ∷ 0 ∷ 1 ∷ [])
    ∷ count 1 31 (1 ∷ 1 ∷ 1 ∷ 0 ∷ 1 ∷ 1 ∷ 1 ∷ [])
    ∷ count 1 40 (1 ∷ 1 ∷ 1 ∷ 1 ∷ 0 ∷ 1 ∷ 0 ∷ 0 ∷ 0 ∷ [])
    ∷ []
