-- The block that analysis makes, of a palette as packed numbers.
use Rattle.std.specs.Prelude.{false, List, map, ℕ, ◌-◌, length, take, replicate}
use Rattle.base.specs.Lists.{padded}
use Rattle.h265.specs.Reuse.{trues}
use Rattle.quant.specs.Quant.{y_of, u_of, v_of}
use Rattle.model.specs.Domain.{no_color}
use Rattle.model.specs.Whole.{no_levels}
use Rattle.model.specs.declared.Color.{Color}
use Rattle.model.specs.declared.PaletteConfig.{PaletteConfig}
use Rattle.model.specs.declared.PaletteCu.{PaletteCu}
use Rattle.model.specs.declared.PalettePredictor.{PalettePredictor}
use Rattle.entries.specs.Entries.{packed_of}
use Rattle.choose.specs.Choose.{Chosen}

-- a number as a colour
unfoldable pub color_of : ℕ → Color
color_of x = record { y = y_of x; cb = u_of x; cr = v_of x }

-- the predictor's entries as numbers
abbrev pub entries_of : PalettePredictor → List ℕ
entries_of p = map packed_of (take p.size p.entries)

-- the block made of a palette and its flags: what analysis does not set and slots past a count are 0 or off
unfoldable pub block_of : PaletteConfig → ℕ → ℕ → ℕ → Chosen → PaletteCu
block_of c size predictors tol w = record {
  size = size;
  chroma_idc = c.chroma_idc;
  bd_luma = c.bd_luma;
  bd_chroma = c.bd_chroma;
  lossless = c.lossless;
  palette = padded 64 no_color (map color_of w.palette);
  palette_size = length w.palette;
  reused = padded 128 false w.flags;
  pred_size = predictors;
  num_signaled = length w.palette - trues w.flags;
  escape_present = false;
  transpose = false;
  indices = replicate 1024 0;
  escapes = replicate 1024 no_levels;
  sse = 0;
  tolerance = tol;
}
