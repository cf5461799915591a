-- The exported reader's answer from the entry point's.
use Rattle.std.specs.Prelude.{◌≡◌, Bool, List, ℕ, ◌/◌, length, take, set}
use Rattle.std.proofs.lemmas.List.Edits.{sets}
use borrow.Author.Tests.{ne_eqb}
use Rattle.flat.specs.Flat.{predictor_of, flat_block}
use Rattle.flatplan.specs.Flat.{flat_runs}
use Rattle.model.specs.declared.PalettePredictor.{PalettePredictor}
use Rattle.read.specs.Reading.{read_of}
use Rattle.readblock.specs.Read.{BlockRead}
use Rattle.exports_read.specs.Calls.{Memory, laid_read, read_laid, read_out}

pub laid-is : {block runs count used : List ℕ} (done : BlockRead) (m : Memory) → block ≡ sets m.block 0 (flat_block done.cu) → runs ≡ sets m.runs 0 (flat_runs (take done.count done.runs)) → count ≡ set m.count 0 done.count → used ≡ set m.used 0 done.used → record { block = block; runs = runs; count = count; used = used } ≡ laid_read done m
unfolding laid_read
laid-is done m b r c u = rw (b, r, c, u)

module _ (size format luma chroma : ℕ) (lossless : Bool) (predictor bins : List ℕ) (m : Memory) (place : List ℕ) {p : PalettePredictor} {done : BlockRead} (a : p ≡ predictor_of predictor) (e : done ≡ read_of size format luma chroma lossless p (length m.runs / 4) bins) where
  out-is : read_out size format luma chroma lossless predictor bins (record { memory = m; place = place }) ≡ read_laid done (record { memory = m; place = place })
  unfolding read_out
  out-is = rw (← a, ← e)

  pub read-laid : {left : Memory} → done.refusal ≡ 0 → left ≡ laid_read done m → (0, record { memory = left; place = place }) ≡ read_out size format luma chroma lossless predictor bins (record { memory = m; place = place })
  unfolding read_laid laid_read
  read-laid h k = rw (out-is, h, k)

  pub read-refused : {left : List ℕ} → (done.refusal ≡ 0 → ⊥) → left ≡ set place 0 done.place → (done.refusal, record { memory = m; place = left }) ≡ read_out size format luma chroma lossless predictor bins (record { memory = m; place = place })
  unfolding read_laid
  read-refused h k = rw (out-is, ne_eqb done.refusal 0 h, k)
