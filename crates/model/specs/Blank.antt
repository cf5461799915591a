-- The blank block: all 0 or off.
use Rattle.std.specs.Prelude.{false, replicate}
use Rattle.model.specs.declared.PaletteCu.{PaletteCu}
use Rattle.model.specs.Domain.{no_color}
use Rattle.model.specs.Whole.{no_levels}

unfoldable pub blank_cu : PaletteCu
blank_cu = record {
  size = 0;
  chroma_idc = 0;
  bd_luma = 0;
  bd_chroma = 0;
  lossless = false;
  palette = replicate 64 no_color;
  palette_size = 0;
  reused = replicate 128 false;
  pred_size = 0;
  num_signaled = 0;
  escape_present = false;
  transpose = false;
  indices = replicate 1024 0;
  escapes = replicate 1024 no_levels;
  sse = 0;
  tolerance = 0;
}
