-- What the exported reader answers and leaves in the memory lent to it: the entry point's answer over the records that the lists of numbers are.
use Rattle.std.specs.Prelude.{Bool, List, ℕ, ◌/◌, eqb, length, take, set}
use Rattle.std.proofs.lemmas.List.Edits.{sets}
use Rattle.base.specs.Pick.{pick}
use Rattle.flat.specs.Flat.{predictor_of, flat_block}
use Rattle.flatplan.specs.Flat.{flat_runs}
use Rattle.read.specs.Reading.{read_of}
use Rattle.readblock.specs.Read.{BlockRead}

-- the memory for what is read: a block, a run list of four numbers a run, places for the number of runs and of bins
pub record Memory : Type 0 where
  pub block : List ℕ
  pub runs : List ℕ
  pub count : List ℕ
  pub used : List ℕ

-- the memory lent: that, and the place of a refusal's place
pub record Lent : Type 0 where
  pub memory : Memory
  pub place : List ℕ

unfoldable pub laid_read : BlockRead → Memory → Memory
laid_read done t = record {
  block = sets t.block 0 (flat_block done.cu);
  runs = sets t.runs 0 (flat_runs (take done.count done.runs));
  count = set t.count 0 done.count;
  used = set t.used 0 done.used;
}

-- a refusal tells its place and leaves all else as it was
unfoldable pub read_laid : BlockRead → Lent → ℕ × Lent
read_laid done l = (
  done.refusal,
  pick (eqb done.refusal 0)
      (record { memory = laid_read done l.memory; place = l.place })
      (record { memory = l.memory; place = set l.place 0 done.place }),
)

unfoldable pub read_out : ℕ → ℕ → ℕ → ℕ → Bool → List ℕ → List ℕ → Lent → ℕ × Lent
read_out size format luma chroma lossless predictor bins l =
    read_laid (read_of size format luma chroma lossless (predictor_of predictor) (length l.memory.runs / 4) bins) l
