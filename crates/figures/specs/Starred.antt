-- Document 01's starred figures ("Figures to hold"): one table, and one statement over it.
use Rattle.std.specs.Prelude.{false, List, [], ◌∷◌, map, ◌≡◌, refl, ℕ, ◌%◌, ℤ, pos, negsuc}
use Rattle.h265.specs.Escape.{scale_of, step_of, step_at, most_of, escape_value}
use Rattle.h265.specs.Scan.{row_of, col_of}
use Rattle.h265.specs.Strings.{bits, egk_aux, egk, flog_aux, flog, tb, unary, run_class, prefix_of, suffixes, suffix_bins, run_bins}
use Rattle.quant.specs.Quant.{tolerance_of, start_of, nearer, quantised, level_of}

pub data Figure : Type 0 where
  Scan : ℕ → ℕ → Figure  -- size, scan place: column and row
  ExpGolomb : ℕ → ℕ → Figure  -- order, value: bins
  Alphabet : ℕ → ℕ → Figure  -- number of values, value: bins
  Run : ℕ → ℕ → Figure  -- longest run, run: bins
  Level : ℤ → ℕ → ℕ → Figure  -- QP, depth, value: s and level
  Value : ℤ → ℕ → ℤ → Figure  -- QP, depth, level: value
  Tolerance : ℤ → Figure  -- QP: tolerance

-- what the definitions give
unfoldable pub computed : Figure → List ℕ
computed (Scan size i) = col_of size i ∷ row_of size i ∷ []
computed (ExpGolomb k v) = egk k v
computed (Alphabet n v) = tb n v
computed (Run longest more) = map (λ (byte : ℕ). byte % 2) (run_bins longest false 0 more)
computed (Level qp depth v) = start_of (step_at qp) v ∷ level_of false (step_at qp) (most_of depth) v ∷ []
computed (Value qp depth level) = escape_value false (step_at qp) (most_of depth) level ∷ []
computed (Tolerance qp) = tolerance_of false (step_at qp) ∷ []

-- a figure and what document 01 says of it
pub record Row : Type 0 where
  pub figure : Figure
  pub expected : List ℕ

abbrev row : Figure → List ℕ → Row
row f e = record { figure = f; expected = e }

unfoldable pub table : List Row
table =
    row (Scan 4 4) (3 ∷ 1 ∷ [])
    ∷ row (ExpGolomb 0 0) (0 ∷ [])
    ∷ row (ExpGolomb 0 1) (1 ∷ 0 ∷ 0 ∷ [])
    ∷ row (ExpGolomb 0 2) (1 ∷ 0 ∷ 1 ∷ [])
    ∷ row (ExpGolomb 0 3) (1 ∷ 1 ∷ 0 ∷ 0 ∷ 0 ∷ [])
    ∷ row (ExpGolomb 3 0) (0 ∷ 0 ∷ 0 ∷ 0 ∷ [])
    ∷ row (ExpGolomb 3 8) (1 ∷ 0 ∷ 0 ∷ 0 ∷ 0 ∷ 0 ∷ [])
    ∷ row (Alphabet 5 0) (0 ∷ 0 ∷ [])
    ∷ row (Alphabet 5 1) (0 ∷ 1 ∷ [])
    ∷ row (Alphabet 5 2) (1 ∷ 0 ∷ [])
    ∷ row (Alphabet 5 3) (1 ∷ 1 ∷ 0 ∷ [])
    ∷ row (Alphabet 5 4) (1 ∷ 1 ∷ 1 ∷ [])
    ∷ row (Run 5 0) (0 ∷ [])
    ∷ row (Run 5 1) (1 ∷ 0 ∷ [])
    ∷ row (Run 5 2) (1 ∷ 1 ∷ 0 ∷ 0 ∷ [])
    ∷ row (Run 5 3) (1 ∷ 1 ∷ 0 ∷ 1 ∷ [])
    ∷ row (Run 5 4) (1 ∷ 1 ∷ 1 ∷ 0 ∷ [])
    ∷ row (Run 5 5) (1 ∷ 1 ∷ 1 ∷ 1 ∷ [])
    ∷ row (Level (pos 22) 8 100) (13 ∷ 12 ∷ [])
    ∷ row (Value (pos 4) 8 (negsuc 0)) (0 ∷ [])
    ∷ row (Value (pos 4) 8 (pos 300)) (255 ∷ [])
    ∷ row (Tolerance (pos 3)) (0 ∷ [])
    ∷ row (Tolerance (pos 4)) (1 ∷ [])
    ∷ row (Tolerance (pos 33)) (14 ∷ [])
    ∷ row (Tolerance (pos 34)) (16 ∷ [])
    ∷ []

pub starred : map (λ (r : Row). computed r.figure) table ≡ map (λ (r : Row). r.expected) table
unfolding scale_of step_of step_at escape_value row_of col_of bits egk_aux egk flog_aux flog tb unary run_class prefix_of suffixes suffix_bins run_bins tolerance_of nearer quantised level_of computed table
starred = refl
