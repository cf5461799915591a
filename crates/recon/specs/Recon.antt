-- H.265, 8.4.4.2.7: the reconstruction of a block, with document 01's refusals.
use Rattle.std.specs.Prelude.{Bool, List, [], ◌∷◌, ◌++◌, ℕ, ◌/◌, eqb, get_or, length}
use Rattle.base.specs.Pick.{pick}
use Rattle.base.specs.Tests.{refusal}
use Rattle.model.specs.Domain.{sub_w, sub_h}
use Rattle.model.specs.Whole.{no_levels}
use Rattle.model.specs.declared.PaletteConfig.{PaletteConfig}
use Rattle.model.specs.declared.PaletteCu.{PaletteCu}
use Rattle.model.specs.declared.SourceBlock.{SourceBlock}
use Rattle.entries.specs.Entries.{palette_of}
use Rattle.levels.specs.Levels.{scale_of, value_at}
use Rattle.sse.specs.Sse.{block_in}
use Rattle.onto.specs.declared.Onto.{Onto}
use Rattle.onto.specs.Onto.{part_of, cell_of, after}
use Rattle.targets.specs.Targets.{target_tests}

-- the colour of scan cell j: its palette entry, or what its escape levels decode to
unfoldable pub cell_color : PaletteConfig → PaletteCu → ℕ → ℕ
cell_color c cu j = value_at (scale_of c) (palette_of cu) cu.palette_size (get_or cu.indices j 0) (get_or cu.escapes j no_levels)

-- a component at column x, row y of the block's luma
unfoldable pub sample_of : PaletteConfig → PaletteCu → ℕ → ℕ → ℕ → ℕ
sample_of c cu comp x y = part_of comp (cell_color c cu (cell_of cu.transpose cu.size x y))

-- the block on the luma plane, which has every sample
abbrev pub luma_onto : ℕ → SourceBlock → ℕ → Bool → Onto
luma_onto stride g size transpose = record {
  stride = stride;
  height = g.yh;
  ox = g.x0;
  oy = g.y0;
  wide = size;
  high = size;
  across = 1;
  down = 1;
  size = size;
  transpose = transpose;
  comp = 0;
}

-- the block on a chroma plane, which has a sample every sub_w columns and sub_h rows
abbrev pub chroma_onto : ℕ → ℕ → SourceBlock → ℕ → Bool → ℕ → Onto
chroma_onto stride format g size transpose comp = record {
  stride = stride;
  height = g.chh;
  ox = g.x0 / sub_w format;
  oy = g.y0 / sub_h format;
  wide = size / sub_w format;
  high = size / sub_h format;
  across = sub_w format;
  down = sub_h format;
  size = size;
  transpose = transpose;
  comp = comp;
}

-- the planes afterwards; in format 0 there is no chroma
unfoldable pub luma_after : ℕ → PaletteConfig → SourceBlock → PaletteCu → List ℕ → List ℕ
luma_after stride c g cu plane = after (luma_onto stride g cu.size cu.transpose) (sample_of c cu 0) plane

unfoldable pub chroma_after : ℕ → PaletteConfig → SourceBlock → PaletteCu → ℕ → List ℕ → List ℕ
chroma_after stride c g cu comp plane = pick (eqb cu.chroma_idc 0) plane (after (chroma_onto stride cu.chroma_idc g cu.size cu.transpose comp) (sample_of c cu comp) plane)

-- refusals 1 2 3 7; ys and cs are the strides
unfoldable pub recon_refusal : List ℕ → List ℕ → List ℕ → ℕ → ℕ → PaletteConfig → SourceBlock → PaletteCu → ℕ
recon_refusal luma cb cr ys cs c g cu = refusal (target_tests c g ys cs (length luma) (length cb) (length cr) ++ ((block_in c g cu, 7) ∷ []))

-- 0 and the planes afterwards, or a refusal's number and the planes as they were
unfoldable pub recon_of : List ℕ → List ℕ → List ℕ → ℕ → ℕ → PaletteConfig → SourceBlock → PaletteCu → ℕ × List ℕ × List ℕ × List ℕ
recon_of luma cb cr ys cs c g cu =
    pick (eqb (recon_refusal luma cb cr ys cs c g cu) 0) (0, luma_after ys c g cu luma, chroma_after cs c g cu 1 cb, chroma_after cs c g cu 2 cr) (recon_refusal luma cb cr ys cs c g cu, luma, cb, cr)
