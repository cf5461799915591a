-- What the reader of a block answers: the block's record and its runs, or a refusal beside the blank block.
use Rattle.std.specs.Prelude.{Result, Ok, Err, Bool, false, List, [], ◌∷◌, ℕ, length, replicate}
use Rattle.base.specs.Answer.{Answer, Value, Refused}
use Rattle.base.specs.Lists.{padded}
use Rattle.model.specs.Blank.{blank_cu}
use Rattle.model.specs.Domain.{no_color}
use Rattle.model.specs.Whole.{no_levels}
use Rattle.model.specs.declared.Levels as D
use Rattle.model.specs.declared.PaletteCu.{PaletteCu}
use Rattle.model.specs.declared.PaletteRun.{PaletteRun}
use Rattle.syntax.specs.Block.{Entry, Call, Told}
use Rattle.syntax.specs.Records.{no_run}
use Rattle.refusal.specs.Refusal.{number_of}
use Rattle.refusal.specs.declared.Refused as E
use Rattle.readblock.specs.declared.BlockRead as C
use Rattle.readblock.specs.declared.BlockFormat.{BlockFormat}

-- a refusal's number and place; or 0, the block, its first `count` runs and the number of bins used
pub record BlockRead : Type 0 where
  pub refusal : ℕ
  pub place : ℕ
  pub cu : PaletteCu
  pub runs : List PaletteRun
  pub count : ℕ
  pub used : ℕ

-- what stands beside the bins; the palette limit is 64
abbrev pub call_for : ℕ → ℕ → ℕ → ℕ → Bool → List Entry → Call
call_for size format luma chroma lossless predictor = record { size = size; format = format; luma = luma; chroma = chroma; lossless = lossless; limit = 64; predictor = predictor }

-- the same in the code's parameters
abbrev pub call_of : BlockFormat → List Entry → Call
call_of f predictor = call_for f.size f.format f.luma f.chroma f.lossless predictor

-- the levels of each cell
unfoldable pub zip_levels : List ℕ → List ℕ → List ℕ → List D.Levels
zip_levels [] us vs = []
zip_levels (y ∷ ys) [] vs = []
zip_levels (y ∷ ys) (u ∷ us) [] = []
zip_levels (y ∷ ys) (u ∷ us) (v ∷ vs) = record { y = y; cb = u; cr = v } ∷ zip_levels ys us vs

-- the block's record: tolerance and error figure 0, slots past a count 0 or off
unfoldable pub cu_read : Call → Told → PaletteCu
cu_read c t = record {
  size = c.size;
  chroma_idc = c.format;
  bd_luma = c.luma;
  bd_chroma = c.chroma;
  lossless = c.lossless;
  palette = padded 64 no_color t.block.colours;
  palette_size = length t.block.colours;
  reused = padded 128 false t.block.flags;
  pred_size = length t.block.flags;
  num_signaled = t.block.signalled;
  escape_present = t.block.escape;
  transpose = t.block.transpose;
  indices = padded 1024 0 t.block.cells;
  escapes = padded 1024 no_levels (zip_levels t.block.levels.y t.block.levels.cb t.block.levels.cr);
  sse = 0;
  tolerance = 0;
}

unfoldable pub refused_of : ℕ → ℕ → BlockRead
refused_of k p = record { refusal = k; place = p; cu = blank_cu; runs = replicate 1024 no_run; count = 0; used = 0 }

-- used: the place after the block's last bin
unfoldable pub answer_of : Call → Answer Told → BlockRead
answer_of c (Value t q) = record { refusal = 0; place = 0; cu = cu_read c t; runs = padded 1024 no_run t.runs; count = length t.runs; used = q }
answer_of c (Refused k p) = refused_of k p

-- the code's answer as that: what it read, or its refusal beside the blank block and no runs
unfoldable pub as_read : Result C.BlockRead E.Refused → BlockRead
as_read (Ok b) = record { refusal = 0; place = 0; cu = b.cu; runs = b.runs; count = b.count; used = b.used }
as_read (Err e) = refused_of (number_of e.refusal) e.place
