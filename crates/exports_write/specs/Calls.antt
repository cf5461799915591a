-- What the exported writer answers and leaves in the memory lent to it: the entry point's answer over the records that the lists of numbers are.
use Rattle.std.specs.Prelude.{List, ℕ, eqb, length, set}
use Rattle.base.specs.Pick.{pick}
use Rattle.flat.specs.Flat.{block_of}
use Rattle.flatplan.specs.Flat.{runs_of}
use Rattle.write.specs.Written.{Written}
use Rattle.write.specs.Write.{write_of, list_after}

-- the memory lent: a bin list, and a place for the number of bins
pub record Lent : Type 0 where
  pub bins : List ℕ
  pub used : List ℕ

-- a refusal leaves all as it was
unfoldable pub write_laid : Written → List ℕ → List ℕ → ℕ × Lent
write_laid done bins used = (done.refusal, record { bins = bins; used = pick (eqb done.refusal 0) (set used 0 done.bins) used })

unfoldable pub write_out : List ℕ → List ℕ → ℕ → Lent → ℕ × Lent
write_out block runs count l =
    write_laid (write_of (block_of block) (runs_of runs count) count (length l.bins)) (list_after (block_of block) (runs_of runs count) count l.bins) l.used
