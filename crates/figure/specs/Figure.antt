-- Document 01: the sample of a scan cell, and the error figure.
use Rattle.std.specs.Prelude.{Bool, not, [], ◌∷◌, ℕ, ◌+◌, ◌*◌, ◌%◌, eqb, get_or}
use Rattle.base.specs.Pick.{pick}
use Rattle.base.specs.Sums.{sum_to}
use Rattle.base.specs.Tests.{every}
use Rattle.h265.specs.Scan.{col_of, row_of}
use Rattle.quant.specs.Quant.{gap, y_of, u_of, v_of}
use Rattle.model.specs.Domain.{sub_w, sub_h}
use Rattle.model.specs.Whole.{no_levels}
use Rattle.model.specs.declared.PaletteCu.{PaletteCu}
use Rattle.entries.specs.Entries.{palette_of}
use Rattle.levels.specs.Levels.{value_at}
use Rattle.levels.specs.declared.Scale.{Scale}

-- the sample of scan cell j, of samples by column and row; transposition exchanges the coordinates
unfoldable pub scan_sample : Bool → ℕ → (ℕ → ℕ → ℕ) → ℕ → ℕ
scan_sample transpose size sample j = pick transpose (sample (row_of size j) (col_of size j)) (sample (col_of size j) (row_of size j))

-- ---- the error figure

abbrev pub square : ℕ → ℕ → ℕ
square a b = gap a b * gap a b

-- the error of colour a against b, with or without chroma
unfoldable pub error_of : Bool → ℕ → ℕ → ℕ
error_of chroma a b = square (y_of a) (y_of b) + pick chroma (square (u_of a) (u_of b) + square (v_of a) (v_of b)) 0

-- whether a chroma sample is written for column x, row y of the scan grid: one every sub_w columns and sub_h rows of the picture
unfoldable pub chroma_in : ℕ → Bool → ℕ → ℕ → Bool
chroma_in format transpose x y = every (not (eqb format 0) ∷ eqb (pick transpose y x % sub_w format) 0 ∷ eqb (pick transpose x y % sub_h format) 0 ∷ [])

-- the error of scan cell j, of what cells decode to and samples by column and row; also where transposed, the sample at the cell's column and row in the scan grid
unfoldable pub error_at : ℕ → Bool → ℕ → (ℕ → ℕ) → (ℕ → ℕ → ℕ) → ℕ → ℕ
error_at format transpose size value sample j = error_of (chroma_in format transpose (col_of size j) (row_of size j)) (value j) (sample (col_of size j) (row_of size j))

unfoldable pub figure_of : ℕ → Bool → ℕ → (ℕ → ℕ) → (ℕ → ℕ → ℕ) → ℕ
figure_of format transpose size value sample = sum_to (size * size) (error_at format transpose size value sample)

-- the error figure of a block
unfoldable pub block_figure : Scale → PaletteCu → (ℕ → ℕ → ℕ) → ℕ
block_figure s cu sample =
    figure_of cu.chroma_idc cu.transpose cu.size (λ j. value_at s (palette_of cu) cu.palette_size (get_or cu.indices j 0) (get_or cu.escapes j no_levels)) sample
