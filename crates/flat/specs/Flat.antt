-- Blocks, predictors, configurations and geometries as lists of numbers; the layout stands in src/lib.rt.
use Rattle.std.specs.Prelude.{false, List, [], ◌∷◌, ◌++◌, map, ℕ, ◌+◌, ◌*◌, ◌/◌, ◌%◌, min, eqb, ℤ, pos, negsuc, get_or, replicate}
use Rattle.base.specs.Cells.{laid}
use Rattle.h265.specs.Strings.{bit}
use Rattle.model.specs.declared.Color.{Color}
use Rattle.model.specs.declared.Levels.{Levels}
use Rattle.model.specs.declared.PaletteConfig.{PaletteConfig}
use Rattle.model.specs.declared.PaletteCu.{PaletteCu}
use Rattle.model.specs.declared.PalettePredictor.{PalettePredictor}
use Rattle.model.specs.declared.SourceBlock.{SourceBlock}
use Rattle.model.specs.Domain.{no_color}
use Rattle.model.specs.Whole.{no_levels}

-- ---- from numbers

-- the number at a place, 0 past the end
abbrev pub number : List ℕ → ℕ → ℕ
number l i = get_or l i 0

-- a number held to a byte: 255 is in no domain
abbrev pub byte : ℕ → ℕ
byte x = min x 255

-- n elements, f i at place i
abbrev pub each : {A : Type 0} → A → ℕ → (ℕ → A) → List A
each a n f = laid f (replicate n a) 0 n

unfoldable pub color_at : List ℕ → ℕ → Color
color_at l p = record { y = number l p; cb = number l (p + 1); cr = number l (p + 2) }

unfoldable pub levels_at : List ℕ → ℕ → Levels
levels_at l p = record { y = number l p; cb = number l (p + 1); cr = number l (p + 2) }

-- four numbers of 16 bits, the lowest first
unfoldable pub long_at : List ℕ → ℕ → ℕ
long_at l p = number l p + 65536 * number l (p + 1) + 4294967296 * number l (p + 2) + 281474976710656 * number l (p + 3)

unfoldable pub block_of : List ℕ → PaletteCu
block_of l = record {
  size = number l 0;
  chroma_idc = byte (number l 1);
  bd_luma = byte (number l 2);
  bd_chroma = byte (number l 3);
  lossless = eqb (number l 4) 1;
  palette = each no_color 64 (λ i. color_at l (16 + 3 * i));
  palette_size = number l 5;
  reused = each false 128 (λ i. eqb (number l (208 + i)) 1);
  pred_size = number l 6;
  num_signaled = number l 7;
  escape_present = eqb (number l 8) 1;
  transpose = eqb (number l 9) 1;
  indices = each 0 1024 (λ i. byte (number l (336 + i)));
  escapes = each no_levels 1024 (λ i. levels_at l (1360 + 3 * i));
  sse = long_at l 11;
  tolerance = number l 10;
}

unfoldable pub predictor_of : List ℕ → PalettePredictor
predictor_of l = record { entries = each no_color 128 (λ i. color_at l (1 + 3 * i)); size = number l 0 }

-- a signed number held to a byte, negatives as 255
unfoldable pub byte_of : ℤ → ℕ
byte_of (pos n) = byte n
byte_of (negsuc n) = 255

-- the signed number at a place, 0 past the end
abbrev pub signed : List ℤ → ℕ → ℤ
signed l i = get_or l i (pos 0)

unfoldable pub config_of : List ℤ → PaletteConfig
config_of l = record {
  num_comps = byte_of (signed l 0);
  chroma_idc = byte_of (signed l 1);
  bd_luma = byte_of (signed l 2);
  bd_chroma = byte_of (signed l 3);
  qp_y = signed l 4;
  qp_cb = signed l 5;
  qp_cr = signed l 6;
  lossless = eqb (byte_of (signed l 7)) 1;
}

unfoldable pub source_of : List ℕ → SourceBlock
source_of l = record {
  yw = number l 0;
  yh = number l 1;
  cw = number l 2;
  chh = number l 3;
  x0 = number l 4;
  y0 = number l 5;
  size = number l 6;
}

-- ---- to numbers

-- a number held to 16 bits
abbrev pub short : ℕ → ℕ
short x = min x 65535

unfoldable pub head_of : PaletteCu → List ℕ
head_of cu =
    short cu.size
    ∷ cu.chroma_idc
    ∷ cu.bd_luma
    ∷ cu.bd_chroma
    ∷ bit cu.lossless
    ∷ short cu.palette_size
    ∷ short cu.pred_size
    ∷ short cu.num_signaled
    ∷ bit cu.escape_present
    ∷ bit cu.transpose
    ∷ short cu.tolerance
    ∷ cu.sse % 65536
    ∷ cu.sse / 65536 % 65536
    ∷ cu.sse / 4294967296 % 65536
    ∷ cu.sse / 281474976710656 % 65536
    ∷ 0
    ∷ []

unfoldable pub colors_of : List Color → List ℕ
colors_of [] = []
colors_of (c ∷ cs) = c.y ∷ c.cb ∷ c.cr ∷ colors_of cs

unfoldable pub levels_of : List Levels → List ℕ
levels_of [] = []
levels_of (c ∷ cs) = c.y ∷ c.cb ∷ c.cr ∷ levels_of cs

unfoldable pub flat_block : PaletteCu → List ℕ
flat_block cu = head_of cu ++ (colors_of cu.palette ++ (map bit cu.reused ++ (cu.indices ++ levels_of cu.escapes)))

unfoldable pub flat_predictor : PalettePredictor → List ℕ
flat_predictor p = short p.size ∷ colors_of p.entries
