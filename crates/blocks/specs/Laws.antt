-- The block made of a palette in arrays; and a colour of 16-bit components comes back from its number.
use Rattle.std.specs.Prelude.{false, map, ◌≡◌, refl, ℕ, ◌-◌, ◌^◌, ◌<◌, replicate}
use Rattle.base.specs.Lists.{padded-map}
use Rattle.quant.specs.QuantLaws.{packed-parts}
use Rattle.model.specs.Domain.{no_color}
use Rattle.model.specs.Whole.{no_levels}
use Rattle.model.specs.declared.Color.{Color}
use Rattle.model.specs.declared.PaletteConfig.{PaletteConfig}
use Rattle.model.specs.declared.PaletteCu.{PaletteCu}
use Rattle.entries.specs.Entries.{packed_of}
use Rattle.choose.specs.Choose.{Chosen, painting_of}
use Rattle.choose.specs.declared.Painting.{Painting}
use Rattle.blocks.specs.Blocks.{color_of, block_of}

-- of a palette as numbers in arrays
unfoldable pub block_with : PaletteConfig → ℕ → ℕ → ℕ → Painting → PaletteCu
block_with c size predictors tol w = record {
  size = size;
  chroma_idc = c.chroma_idc;
  bd_luma = c.bd_luma;
  bd_chroma = c.bd_chroma;
  lossless = c.lossless;
  palette = map color_of w.palette;
  palette_size = w.size;
  reused = w.flags;
  pred_size = predictors;
  num_signaled = w.size - w.reused;
  escape_present = false;
  transpose = false;
  indices = replicate 1024 0;
  escapes = replicate 1024 no_levels;
  sse = 0;
  tolerance = tol;
}

no_color_lem : color_of 0 ≡ no_color
unfolding color_of
no_color_lem = refl

pub block_painted : (c : PaletteConfig) (size predictors tol : ℕ) (w : Chosen) → block_with c size predictors tol (painting_of w) ≡ block_of c size predictors tol w
unfolding block_with block_of painting_of
block_painted c size predictors tol w = rw (padded-map color_of 64 0 w.palette, no_color_lem)

pub color_packed : (c : Color) → c.y < 2 ^ 16 → c.cb < 2 ^ 16 → c.cr < 2 ^ 16 → color_of (packed_of c) ≡ c
unfolding color_of packed_of
color_packed c a b d =
    let p = packed-parts c.y c.cb c.cr a b d in
    (λ i. record { y = p.0 i; cb = p.1 i; cr = p.2 i })
