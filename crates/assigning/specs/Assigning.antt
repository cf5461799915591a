-- Document 01's assignment: index and levels of each cell in scan order, the flags, and the error figure. Colours of the picture are given by column and row of the block.
use Rattle.std.specs.Prelude.{Bool, not, List, [], ◌∷◌, ◌++◌, ℕ, ◌*◌, eqb, leb, Result, Ok, Err}
use Rattle.base.specs.Pick.{pick}
use Rattle.base.specs.Cells.{laid}
use Rattle.base.specs.Tests.{every, refusal}
use Rattle.model.specs.Whole.{assignable, matches, matches_size}
use Rattle.model.specs.declared.Levels.{Levels}
use Rattle.model.specs.declared.PaletteConfig.{PaletteConfig}
use Rattle.model.specs.declared.PaletteCu.{PaletteCu}
use Rattle.model.specs.declared.SourceBlock.{SourceBlock}
use Rattle.entries.specs.Entries.{palette_of}
use Rattle.samples.specs.Samples.{color_at}
use Rattle.source.specs.Source.{source_tests}
use Rattle.assign.specs.Assign.{index_of, escapes_of}
use Rattle.levels.specs.Levels.{scale_of, levels_at}
use Rattle.figure.specs.Figure.{scan_sample, block_figure}
use Rattle.refusal.specs.Refusal.{number_of}
use Rattle.refusal.specs.declared.Refusal.{Refusal}

-- ---- the cells

-- the index of scan cell j: the entry nearest to its sample, or the palette size, an escape
unfoldable pub index_at : Bool → PaletteCu → (ℕ → ℕ → ℕ) → ℕ → ℕ
index_at transpose cu sample j = index_of cu.tolerance (palette_of cu) cu.palette_size (scan_sample transpose cu.size sample j)

-- its levels, 0 but at an escape
unfoldable pub cell_levels : PaletteConfig → Bool → PaletteCu → (ℕ → ℕ → ℕ) → ℕ → Levels
cell_levels c transpose cu sample j = levels_at (scale_of c) cu.palette_size (index_at transpose cu sample j) (scan_sample transpose cu.size sample j)

-- how many cells escape
unfoldable pub escapes : Bool → PaletteCu → (ℕ → ℕ → ℕ) → ℕ
escapes transpose cu sample = escapes_of cu.tolerance (palette_of cu) cu.palette_size (cu.size * cu.size) (scan_sample transpose cu.size sample)

-- ---- the block

-- with other flags and cells
abbrev pub with_cells : PaletteCu → Bool → Bool → List ℕ → List Levels → PaletteCu
with_cells cu present transpose indices escapes = record {
  size = cu.size;
  chroma_idc = cu.chroma_idc;
  bd_luma = cu.bd_luma;
  bd_chroma = cu.bd_chroma;
  lossless = cu.lossless;
  palette = cu.palette;
  palette_size = cu.palette_size;
  reused = cu.reused;
  pred_size = cu.pred_size;
  num_signaled = cu.num_signaled;
  escape_present = present;
  transpose = transpose;
  indices = indices;
  escapes = escapes;
  sse = cu.sse;
  tolerance = cu.tolerance;
}

-- with another error figure
abbrev pub with_sse : PaletteCu → ℕ → PaletteCu
with_sse cu e = record {
  size = cu.size;
  chroma_idc = cu.chroma_idc;
  bd_luma = cu.bd_luma;
  bd_chroma = cu.bd_chroma;
  lossless = cu.lossless;
  palette = cu.palette;
  palette_size = cu.palette_size;
  reused = cu.reused;
  pred_size = cu.pred_size;
  num_signaled = cu.num_signaled;
  escape_present = cu.escape_present;
  transpose = cu.transpose;
  indices = cu.indices;
  escapes = cu.escapes;
  sse = e;
  tolerance = cu.tolerance;
}

-- the block with the indices and levels of its cells, those past them as they were
unfoldable pub mapped : PaletteConfig → Bool → PaletteCu → (ℕ → ℕ → ℕ) → PaletteCu
mapped c transpose cu sample =
    with_cells cu (not (eqb (escapes transpose cu sample) 0)) transpose (laid (index_at transpose cu sample) cu.indices 0 (cu.size * cu.size)) (laid (cell_levels c transpose cu sample) cu.escapes 0 (cu.size * cu.size))

-- the block that assignment makes: its error figure is that of the cells it has then
unfoldable pub assigned : PaletteConfig → Bool → PaletteCu → (ℕ → ℕ → ℕ) → PaletteCu
assigned c transpose cu sample = with_sse (mapped c transpose cu sample) (block_figure (scale_of c) (mapped c transpose cu sample) sample)

-- ---- refusals

-- 7: the clauses that assignment tests
unfoldable pub block_in : PaletteConfig → SourceBlock → PaletteCu → Bool
block_in c g cu = every (assignable 64 cu ∷ matches c cu ∷ matches_size g.size cu ∷ [])

-- 14: not escapes × 4 > n
unfoldable pub escapes_in : Bool → PaletteCu → (ℕ → ℕ → ℕ) → Bool
escapes_in transpose cu sample = leb (escapes transpose cu sample * 4) (cu.size * cu.size)

-- 1 2 3 4 7 14
unfoldable pub assign_refusal : List ℕ → List ℕ → List ℕ → PaletteConfig → SourceBlock → Bool → PaletteCu → ℕ
assign_refusal luma cb cr c g transpose cu =
    refusal (source_tests luma cb cr c g ++ ((block_in c g cu, 7) ∷ (escapes_in transpose cu (color_at luma cb cr c.chroma_idc g), 14) ∷ []))

-- what the call answers: 0 and the block made, or a refusal's number and the block as it came
pub record Assigned : Type 0 where
  pub refusal : ℕ
  pub cu : PaletteCu

abbrev pub as_assigned : PaletteCu → Result PaletteCu Refusal → Assigned
as_assigned cu (Ok made) = record { refusal = 0; cu = made }
as_assigned cu (Err r) = record { refusal = number_of r; cu = cu }

-- the block that assignment makes, or a refusal and the block as it came
unfoldable pub assign_of : List ℕ → List ℕ → List ℕ → PaletteConfig → SourceBlock → Bool → PaletteCu → Assigned
assign_of luma cb cr c g transpose cu = record {
  refusal = assign_refusal luma cb cr c g transpose cu;
  cu = pick (eqb (assign_refusal luma cb cr c g transpose cu) 0) (assigned c transpose cu (color_at luma cb cr c.chroma_idc g)) cu;
}
