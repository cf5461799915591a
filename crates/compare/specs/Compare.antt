-- At how many places two lists, planes or blocks differ. Blocks are lists of numbers, as crate flat lays them out.
use Rattle.std.specs.Prelude.{Bool, List, [], ◌∷◌, ℕ, ◌+◌, ◌*◌, ◌-◌, min, eqb}
use Rattle.base.specs.Pick.{pick}
use Rattle.base.specs.Sums.{sum_to}
use Rattle.base.specs.Tests.{every}
use Rattle.due.specs.Due.{due_at}
use Rattle.flat.specs.Flat.{number}

-- 1 where two numbers differ
abbrev pub unlike : ℕ → ℕ → ℕ
unlike x y = pick (eqb x y) 0 1

-- of n places from p on
unfoldable pub differing : List ℕ → List ℕ → ℕ → ℕ → ℕ
differing a b p n = sum_to n (λ i. unlike (number a (p + i)) (number b (p + i)))

-- the places from x on of the `size` that are below w
abbrev pub clipped : ℕ → ℕ → ℕ → ℕ
clipped w x size = min size (w - x)

-- of the samples of a block, at column x and row y, that lie within planes of w × h
unfoldable pub differing_samples : List ℕ → List ℕ → ℕ → ℕ → ℕ → ℕ → ℕ → ℕ
differing_samples a b w h x y size = sum_to (clipped h y size) (λ r. differing a b (y * w + x + r * w) (clipped w x size))

-- ---- cells: of the block a that is written and the block b that is read

-- the level of component k that is sent of cell i: at an escape, where the component has a sample; else 0
unfoldable pub level_sent : List ℕ → ℕ → ℕ → Bool → ℕ → ℕ → ℕ
level_sent a size format turned k i =
    pick (every (eqb (number a (336 + i)) (number a 5) ∷ due_at format size turned k i ∷ [])) (number a (1360 + 3 * i + k)) 0

abbrev pub same_level : List ℕ → List ℕ → ℕ → ℕ → Bool → ℕ → ℕ → Bool
same_level a b size format turned k i = eqb (number b (1360 + 3 * i + k)) (level_sent a size format turned k i)

-- cell i has its index, and the levels that are sent
unfoldable pub same_cell : List ℕ → List ℕ → ℕ → ℕ → Bool → ℕ → Bool
same_cell a b size format turned i =
    every
    (eqb (number b (336 + i)) (number a (336 + i))
    ∷ same_level a b size format turned 0 i
    ∷ same_level a b size format turned 1 i
    ∷ same_level a b size format turned 2 i
    ∷ [])

-- of the cells
unfoldable pub differing_cells : List ℕ → List ℕ → ℕ → ℕ → Bool → ℕ
differing_cells a b size format turned = sum_to (size * size) (λ i. pick (same_cell a b size format turned i) 0 1)
