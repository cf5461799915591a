-- Blocks of the worked round trip.
use Rattle.std.specs.Prelude.{Bool, true, false, List, [], ◌∷◌, ◌≡◌, refl, ℕ, ◌-◌, length, replicate}
use Rattle.std.proofs.Common.{ap, arith}
use Rattle.std.specs.Float.Ieee.{add, lt, le, div, of_int, of_bits}
use Rattle.base.specs.Lists.{padded}
use Rattle.base.specs.Upto.{number}
use Rattle.h265.specs.Strings.{bits}
use Rattle.model.specs.Domain.{no_color}
use Rattle.model.specs.Whole.{no_levels}
use Rattle.model.specs.declared.PaletteCu.{PaletteCu}
use Rattle.model.specs.declared.PalettePredictor.{PalettePredictor}
use Rattle.rates.specs.declared.RateModel.{RateModel}

-- size 2, format 0, 8 bits, no predictor, signalled entries 10 and 200, indices 0 1 1 0 along the scan, all rates 1
unfoldable pub block_2 : PaletteCu
block_2 = record {
  size = 2;
  chroma_idc = 0;
  bd_luma = 8;
  bd_chroma = 8;
  lossless = false;
  palette = padded 64 no_color (record { y = 10; cb = 0; cr = 0 } ∷ record { y = 200; cb = 0; cr = 0 } ∷ []);
  palette_size = 2;
  reused = replicate 128 false;
  pred_size = 0;
  num_signaled = 2;
  escape_present = false;
  transpose = false;
  indices = padded 1024 0 (0 ∷ 1 ∷ 1 ∷ 0 ∷ []);
  escapes = replicate 1024 no_levels;
  sse = 0;
  tolerance = 0;
}

unfoldable pub none : PalettePredictor
none = record { entries = replicate 128 no_color; size = 0 }

unfoldable pub ones : RateModel
ones = record { run_type = record { bin0 = number 1; bin1 = number 1 }; run_prefix = replicate 8 (record { bin0 = number 1; bin1 = number 1 }) }
