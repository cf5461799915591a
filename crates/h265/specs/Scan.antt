-- The traverse scan (6.5): cell i of a block of size × size cells. Even rows run left to right, odd rows right to left.
use Rattle.std.specs.Prelude.{ℕ, ◌+◌, ◌*◌, ◌-◌, ◌/◌, ◌%◌, List, eqb, ltb, get_or}
use Rattle.base.specs.Pick.{pick}

-- the column of the cell that is number x of its row, and the number of the cell at column x
abbrev pub along : ℕ → ℕ → ℕ → ℕ
along size row x = pick (eqb (row % 2) 0) x (size - 1 - x)

unfoldable pub row_of : ℕ → ℕ → ℕ
row_of size i = i / size

unfoldable pub col_of : ℕ → ℕ → ℕ
col_of size i = along size (i / size) (i % size)

-- the scan place of a column and a row
unfoldable pub scan_at : ℕ → ℕ → ℕ → ℕ
scan_at size col row = row * size + along size row col

-- the scan place of the cell one row up in the same column
unfoldable pub place_above : ℕ → ℕ → ℕ
place_above size i = scan_at size (col_of size i) (row_of size i - 1)

-- what stands above place i of the cells xs along the scan; it reads as 0 in row 0
unfoldable pub above_at : ℕ → List ℕ → ℕ → ℕ
above_at size xs i = pick (ltb i size) 0 (get_or xs (place_above size i) 0)
