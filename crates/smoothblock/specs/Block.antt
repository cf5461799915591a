-- Document 01's smoothing of a block: its index map and its error figure. Colours of the picture are given by column and row of the block.
use Rattle.std.specs.Prelude.{Bool, Result, Ok, Err, false, List, ℕ, ◌*◌, Float, replicate}
use Rattle.base.specs.Cells.{laid}
use Rattle.base.specs.Pick.{pick}
use Rattle.model.specs.declared.PaletteConfig.{PaletteConfig}
use Rattle.model.specs.declared.PaletteCu.{PaletteCu}
use Rattle.entries.specs.Entries.{palette_of}
use Rattle.levels.specs.Levels.{scale_of}
use Rattle.figure.specs.Figure.{scan_sample, block_figure}
use Rattle.smooth.specs.Smooth.{Scene, scene, Map, smoothed}
use Rattle.refusal.specs.Refusal.{number_of}
use Rattle.refusal.specs.declared.Refusal.{Refusal}
use Rattle.smoothblock.specs.declared.SmoothedBlock.{SmoothedBlock}

-- ---- the index map

-- the samples of a block along the scan, 0 past them
abbrev pub cells_of : PaletteCu → (ℕ → ℕ → ℕ) → List ℕ
cells_of cu sample = laid (scan_sample false cu.size sample) (replicate 1024 0) 0 (cu.size * cu.size)

abbrev pub scene_of : PaletteCu → (ℕ → ℕ → ℕ) → Float → Scene
scene_of cu sample budget = scene cu.size cu.chroma_idc cu.palette_size cu.tolerance (palette_of cu) (cells_of cu sample) budget

unfoldable pub map_of : PaletteCu → (ℕ → ℕ → ℕ) → Float → Map
map_of cu sample budget = smoothed (scene_of cu sample budget) cu.indices

-- ---- the block

-- with other indices and another error figure
abbrev pub with_map : PaletteCu → List ℕ → ℕ → PaletteCu
with_map cu indices sse = record {
  size = cu.size;
  chroma_idc = cu.chroma_idc;
  bd_luma = cu.bd_luma;
  bd_chroma = cu.bd_chroma;
  lossless = cu.lossless;
  palette = cu.palette;
  palette_size = cu.palette_size;
  reused = cu.reused;
  pred_size = cu.pred_size;
  num_signaled = cu.num_signaled;
  escape_present = cu.escape_present;
  transpose = cu.transpose;
  indices = indices;
  escapes = cu.escapes;
  sse = sse;
  tolerance = cu.tolerance;
}

-- with an index map: where a run was moved, the error figure is computed anew
unfoldable pub mapped : PaletteConfig → PaletteCu → (ℕ → ℕ → ℕ) → Map → PaletteCu
mapped c cu sample m = with_map cu m.indices (pick m.changed (block_figure (scale_of c) (with_map cu m.indices cu.sse) sample) cu.sse)

-- a refusal's number and the block as it came, or 0, whether a run was moved, and the block made
pub record Smoothed : Type 0 where
  pub refusal : ℕ
  pub changed : Bool
  pub cu : PaletteCu

abbrev pub as_smoothed : PaletteCu → Result SmoothedBlock Refusal → Smoothed
as_smoothed cu (Ok s) = record { refusal = 0; changed = s.changed; cu = s.cu }
as_smoothed cu (Err r) = record { refusal = number_of r; changed = false; cu = cu }

-- the answer where nothing is refused
unfoldable pub answer : PaletteConfig → Float → PaletteCu → (ℕ → ℕ → ℕ) → Smoothed
answer c budget cu sample = record { refusal = 0; changed = (map_of cu sample budget).changed; cu = mapped c cu sample (map_of cu sample budget) }
