-- What the code makes, and that only the picture in the block counts.
use Rattle.std.specs.Prelude.{Bool, true, false, ◌≡◌, ℕ, ◌+◌, ◌*◌, ◌<◌, Float, replicate}
use mathlib.Core.List.{List}
use Rattle.std.proofs.Math.Path.{ap}
use Rattle.std.proofs.Common.{◌∙◌, arith}
use Rattle.base.specs.Cells.{laid_same}
use Rattle.model.specs.declared.PaletteConfig.{PaletteConfig}
use Rattle.model.specs.declared.PaletteCu.{PaletteCu}
use Rattle.entries.specs.Entries.{palette_of}
use Rattle.levels.specs.Levels.{scale_of}
use Rattle.figure.specs.Figure.{scan_sample, block_figure}
use Rattle.figure.specs.Laws.{scan_same, block_same}
use Rattle.smooth.specs.Smooth.{scene, Map, map, smoothed}
use Rattle.smoothblock.specs.Block.{cells_of, map_of, with_map, mapped, answer}

pub map-moved : (c : PaletteConfig) (cu : PaletteCu) (sample : ℕ → ℕ → ℕ) (l : List ℕ) (t : Bool) (f : ℕ) → t ≡ true → f ≡ block_figure (scale_of c) (with_map cu l cu.sse) sample → with_map cu l f ≡ mapped c cu sample (map l t)
unfolding mapped
map-moved c cu sample l t f e h = rw (e, h)

pub map-kept : (c : PaletteConfig) (cu : PaletteCu) (sample : ℕ → ℕ → ℕ) (l : List ℕ) (t : Bool) → t ≡ false → with_map cu l cu.sse ≡ mapped c cu sample (map l t)
unfolding mapped
map-kept c cu sample l t e = rw e

pub answer-made : (c : PaletteConfig) (budget : Float) (cu out : PaletteCu) (sample : ℕ → ℕ → ℕ) (palette scan l : List ℕ) (escape : ℕ) (changed : Bool)
    → palette ≡ palette_of cu → scan ≡ cells_of cu sample → escape ≡ cu.palette_size
    → map l changed ≡ smoothed (scene cu.size cu.chroma_idc escape cu.tolerance palette scan budget) cu.indices
    → out ≡ mapped c cu sample (map l changed) → record { refusal = 0; changed = changed; cu = out } ≡ answer c budget cu sample
unfolding answer map_of
answer-made c budget cu out sample palette scan l escape changed p s e h o =
    let m : map l changed ≡ map_of cu sample budget = h ∙ rw (p, s, e) in
    rw o (ap (λ (z : Map). record { refusal = 0; changed = z.changed; cu = mapped c cu sample z }) m)

-- pictures that agree in the block
module _ (cu : PaletteCu) (f g : ℕ → ℕ → ℕ) (agree : (x y : ℕ) → x < cu.size → y < cu.size → f x y ≡ g x y) where
  cells_same : cells_of cu f ≡ cells_of cu g
  cells_same = laid_same (scan_sample false cu.size f) (scan_sample false cu.size g) (replicate 1024 0) 0 (cu.size * cu.size) (λ j h. scan_same false cu.size f g agree (0 + j) (omega arith))

  map_same : (budget : Float) → map_of cu f budget ≡ map_of cu g budget
  unfolding map_of
  map_same budget = ap (λ (l : List ℕ). smoothed (scene cu.size cu.chroma_idc cu.palette_size cu.tolerance (palette_of cu) l budget) cu.indices) cells_same

  pub answer-same : (c : PaletteConfig) (budget : Float) → answer c budget cu f ≡ answer c budget cu g
  unfolding answer mapped
  answer-same c budget = rw (map_same budget, block_same (scale_of c) (with_map cu (map_of cu g budget).indices cu.sse) f g agree)
