-- What the reader answers, and the run list that was lent to it, after the call.
use Rattle.std.specs.Prelude.{Result, Ok, Err, Bool, List, ℕ, length}
use Rattle.model.specs.declared.PaletteCu.{PaletteCu}
use Rattle.model.specs.declared.PalettePredictor.{PalettePredictor}
use Rattle.model.specs.declared.PaletteRun.{PaletteRun}
use Rattle.read.specs.Reading.{read_of}
use Rattle.readblock.specs.Read.{BlockRead, refused_of}
use Rattle.refusal.specs.Refusal.{number_of}
use Rattle.refusal.specs.declared.Refused.{Refused}
use Rattle.runlist.specs.Lists.{laid_on}
use Rattle.readlist.specs.declared.CuRead as C

-- a refusal's number and place; or 0, the block, the number of its runs and the number of bins used
pub record CuRead : Type 0 where
  pub refusal : ℕ
  pub place : ℕ
  pub cu : PaletteCu
  pub count : ℕ
  pub used : ℕ

-- a reader's answer, and the runs to be laid
pub record Counted : Type 0 where
  pub answer : CuRead
  pub count : ℕ
  pub runs : List PaletteRun

-- an answer without its runs
abbrev pub cu_read : BlockRead → CuRead
cu_read b = record { refusal = b.refusal; place = b.place; cu = b.cu; count = b.count; used = b.used }

-- the code's answer as that: what it read, or its refusal beside the blank block
abbrev pub as_cu_read : Result C.CuRead Refused → CuRead
as_cu_read (Ok r) = record { refusal = 0; place = 0; cu = r.cu; count = r.count; used = r.used }
as_cu_read (Err e) = cu_read (refused_of (number_of e.refusal) e.place)

abbrev pub cu_read_of : ℕ → ℕ → ℕ → ℕ → Bool → PalettePredictor → ℕ → List ℕ → CuRead
cu_read_of size format luma chroma lossless p room bins = cu_read (read_of size format luma chroma lossless p room bins)

-- the block's runs from the list's start on, as many as were read, and then what stood there
unfoldable pub runs_after : ℕ → ℕ → ℕ → ℕ → Bool → PalettePredictor → List ℕ → List PaletteRun → List PaletteRun
runs_after size format luma chroma lossless p bins l =
    laid_on l (read_of size format luma chroma lossless p (length l) bins).runs (read_of size format luma chroma lossless p (length l) bins).count

-- the answer with its runs and their count
unfoldable pub counted_of : ℕ → ℕ → ℕ → ℕ → Bool → PalettePredictor → ℕ → List ℕ → Counted
counted_of size format luma chroma lossless p room bins = record {
  answer = cu_read_of size format luma chroma lossless p room bins;
  count = (read_of size format luma chroma lossless p room bins).count;
  runs = (read_of size format luma chroma lossless p room bins).runs;
}
