-- One turn of the loop over the runs, and its end.
use Rattle.std.specs.Prelude.{◌≡◌, false, List, [], ◌++◌, ℕ, ◌+◌, ◌≤◌, ◌<◌, length, take, drop, get_or}
use Rattle.base.specs.Counted as C
use Rattle.model.specs.declared.PaletteRun.{PaletteRun}
use Rattle.lines.specs.Lines.{run_line, run_lines}

-- what an array of runs holds past its end, for the logic
abbrev no_run : PaletteRun
no_run = record { above = false; sent = 0; more = 0; start = 0 }

module _ (runs : List PaletteRun) (count i : ℕ) (h : count ≤ length runs) where
  pub lines_turn : i < count → run_lines (drop i (take count runs)) ≡ run_line (get_or runs i no_run) ++ run_lines (drop (i + 1) (take count runs))
  unfolding run_lines
  lines_turn l = rw (C.read runs count i no_run l h)

  pub lines_end : count ≤ i → run_lines (drop i (take count runs)) ≡ []
  unfolding run_lines
  lines_end l = rw (C.end runs count i l h)
