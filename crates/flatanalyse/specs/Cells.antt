-- What analysis on lists answers and leaves in the memory lent to it, from the block's colours on.
use Rattle.std.specs.Prelude.{List, [], ◌∷◌, ℕ, ◌*◌, leb}
use Rattle.analysis.specs.Analyze.{lent_in, few_colors, answer_of}
use Rattle.base.specs.Tests.{refusal}
use Rattle.model.specs.declared.PaletteConfig.{PaletteConfig}
use Rattle.model.specs.declared.PalettePredictor.{PalettePredictor}
use Rattle.flatchoose.specs.Choose.{Lent, counter_lent, analyzed_laid}

-- 5, 7 or 13, or the block made
abbrev pub cells_out : List ℕ → PaletteConfig → ℕ → PalettePredictor → ℕ → Lent → ℕ × Lent
cells_out xs c size p tol l =
    analyzed_laid (answer_of (refusal ((lent_in c p (counter_lent l), 5) ∷ (leb tol 16, 7) ∷ (few_colors xs (size * size), 13) ∷ [])) xs c size p (counter_lent l) tol) l
