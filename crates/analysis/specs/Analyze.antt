-- Document 01's analysis of a block: the refusals, the block made, and the colour counter after it. Definitions only.
use Rattle.std.specs.Prelude.{Result, Ok, Err, Bool, not, List, [], ◌∷◌, ◌++◌, ℕ, ◌-◌, ◌*◌, eqb, leb, length, replicate}
use Rattle.base.specs.Cells.{laid}
use Rattle.base.specs.Pick.{pick}
use Rattle.base.specs.Tests.{every, any, refusal}
use Rattle.h265.specs.Escape.{step_at}
use Rattle.quant.specs.Quant.{tolerance_of}
use Rattle.model.specs.Blank.{blank_cu}
use Rattle.model.specs.Domain.{predictor_in}
use Rattle.model.specs.declared.PaletteConfig.{PaletteConfig}
use Rattle.model.specs.declared.PalettePredictor.{PalettePredictor}
use Rattle.model.specs.declared.SourceBlock.{SourceBlock}
use Rattle.samples.specs.Samples.{cell_at}
use Rattle.source.specs.Source.{source_tests}
use Rattle.colors.specs.Table.{none_above}
use Rattle.colors.specs.declared.ColorIndex.{ColorIndex}
use Rattle.census.specs.Census.{met, too_many}
use Rattle.tally.specs.Tally.{index_of}
use Rattle.analyse.specs.Analyse.{analysed}
use Rattle.blocks.specs.Blocks.{entries_of, block_of}
use Rattle.model.specs.declared.PaletteCu.{PaletteCu}
use Rattle.refusal.specs.declared.Refusal.{Refusal}
use Rattle.refusal.specs.Refusal.{number_of}

-- a refusal's number, 0 where there is none; the block made, blank on a refusal; the counter after the call
pub record Analyzed : Type 0 where
  pub refusal : ℕ
  pub cu : PaletteCu
  pub counter : ColorIndex

-- an answer with the counter after the call
abbrev pub as_analyzed : Result PaletteCu Refusal → ColorIndex → Analyzed
as_analyzed (Ok cu) k = record { refusal = 0; cu = cu; counter = k }
as_analyzed (Err r) k = record { refusal = number_of r; cu = blank_cu; counter = k }

-- the block's colours, row by row from the left
abbrev pub cells_of : List ℕ → List ℕ → List ℕ → PaletteConfig → SourceBlock → List ℕ
cells_of luma cb cr c g = laid (cell_at luma cb cr c.chroma_idc g) (replicate 1024 0) 0 (g.size * g.size)

-- the tolerance of the luma QP and the lossless flag
abbrev pub tolerance_at : PaletteConfig → ℕ
tolerance_at c = tolerance_of c.lossless (step_at c.qp_y)

-- ---- refusals

-- 5: predictor over 128 entries or an entry over its depth; counter with a stamp above its generation
unfoldable pub lent_in : PaletteConfig → PalettePredictor → ColorIndex → Bool
lent_in c p k = every (predictor_in c.chroma_idc c.bd_luma c.bd_chroma p ∷ none_above k.generation k.stamp ∷ [])

-- 13: more than 128 distinct colours, or distinct × 2 > n
unfoldable pub few_colors : List ℕ → ℕ → Bool
few_colors xs n = not (too_many (length (met xs n)) n)

-- 1 2 3 4 5 13
unfoldable pub palette_refusal : List ℕ → List ℕ → List ℕ → PaletteConfig → SourceBlock → PalettePredictor → ColorIndex → ℕ
palette_refusal luma cb cr c g p k =
    refusal (source_tests luma cb cr c g ++ ((lent_in c p k, 5) ∷ (few_colors (cells_of luma cb cr c g) (g.size * g.size), 13) ∷ []))

-- lent a tolerance: 1 2 3 4 5 7 13
unfoldable pub with_refusal : List ℕ → List ℕ → List ℕ → PaletteConfig → SourceBlock → PalettePredictor → ColorIndex → ℕ → ℕ
with_refusal luma cb cr c g p k tol =
    refusal (source_tests luma cb cr c g ++ ((lent_in c p k, 5) ∷ (leb tol 16, 7) ∷ (few_colors (cells_of luma cb cr c g) (g.size * g.size), 13) ∷ []))

-- ---- the answer

-- a call is decided by its colours: it is not refused by 1 to 7
unfoldable pub decided : ℕ → Bool
decided r = any (eqb r 0 ∷ eqb r 13 ∷ [])

-- what goes with a refusal's number r, 0 for none: the block made or the blank one, and the counter, which moves where the call is decided by its colours xs
unfoldable pub answer_of : ℕ → List ℕ → PaletteConfig → ℕ → PalettePredictor → ColorIndex → ℕ → Analyzed
answer_of r xs c size p k tol = record {
  refusal = r;
  cu = pick (eqb r 0) (block_of c size p.size tol (analysed tol 64 (entries_of p) xs (size * size))) blank_cu;
  counter = pick (decided r) (index_of k xs (size * size) (c.bd_luma - 8)) k;
}

unfoldable pub analyze_of : List ℕ → List ℕ → List ℕ → PaletteConfig → SourceBlock → PalettePredictor → ColorIndex → Analyzed
analyze_of luma cb cr c g p k = answer_of (palette_refusal luma cb cr c g p k) (cells_of luma cb cr c g) c g.size p k (tolerance_at c)

unfoldable pub analyze_with_of : List ℕ → List ℕ → List ℕ → PaletteConfig → SourceBlock → PalettePredictor → ColorIndex → ℕ → Analyzed
analyze_with_of luma cb cr c g p k tol = answer_of (with_refusal luma cb cr c g p k tol) (cells_of luma cb cr c g) c g.size p k tol
