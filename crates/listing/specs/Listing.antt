-- What `list` prints of a file's bytes: document 01's program.
use Rattle.std.specs.Prelude.{List, ◌++◌, ℕ, eqb, length}
use Rattle.base.specs.Answer.{Answer, Value, Refused}
use Rattle.base.specs.Pick.{pick}
use Rattle.syntax.specs.Block.{Told}
use Rattle.read.specs.Reading.{read_answer}
use Rattle.layout.specs.Layout.{size_of, format_of, luma_of, chroma_of, lossless_of, laid_out, predictor_of, bins_of}
use Rattle.lines.specs.Lines.{refused_line, block_line, run_lines}

-- the reader's answer to the file's numbers, entries and bins; it has room for the runs of any block
unfoldable pub reading_of : List ℕ → Answer Told
reading_of l = read_answer (size_of l) (format_of l) (luma_of l) (chroma_of l) (eqb (lossless_of l) 1) (predictor_of l) 1024 (bins_of l)

-- a block's line and those of its runs, or the refusal; the bins are those used
unfoldable pub told_of : ℕ → Answer Told → List ℕ
told_of size (Value t used) = block_line size (length t.block.colours) t.block.escape t.block.transpose used ++ run_lines t.runs
told_of size (Refused number place) = refused_line number place

-- 16 comes before all others
unfoldable pub listing_of : List ℕ → List ℕ
listing_of l = pick (laid_out l) (told_of (size_of l) (reading_of l)) (refused_line 16 0)
