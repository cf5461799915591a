-- The exported writer's answer from the entry point's.
use Rattle.std.specs.Prelude.{◌≡◌, List, ℕ, length, set}
use Rattle.std.proofs.Common.{arith}
use borrow.Author.Tests.{ne_eqb}
use Rattle.flat.specs.Flat.{block_of}
use Rattle.flatplan.specs.Flat.{runs_of}
use Rattle.model.specs.declared.PaletteCu.{PaletteCu}
use Rattle.model.specs.declared.PaletteRun.{PaletteRun}
use Rattle.refusal.specs.declared.Refusal.{Refusal}
use Rattle.refusal.specs.declared.Refusal.TheVariants.{Config, Geometry, Plane, Sample, Predictor, Rate, Block, Runs, Room, BinsEnd, BinClass, Value, TooManyColors, TooManyEscapes, Smoothing, InputFile}
use Rattle.refusal.specs.Refusal.{number_of}
use Rattle.write.specs.Written.{Written}
use Rattle.write.specs.Write.{write_of, list_after}
use Rattle.exports_write.specs.Calls.{write_laid, write_out}

module _ (block runs : List ℕ) (count : ℕ) (bins used : List ℕ) {cu : PaletteCu} {given : List PaletteRun} {done : Written} {after : List ℕ} (a : cu ≡ block_of block) (b : given ≡ runs_of runs count) (e : (done ≡ write_of cu given count (length bins)) × (after ≡ list_after cu given count bins)) where
  out-is : write_out block runs count (record { bins = bins; used = used }) ≡ write_laid done after used
  unfolding write_out
  out-is = rw (← a, ← b, ← e.0, ← e.1)

  pub write_laid_lem : {left : List ℕ} → done.refusal ≡ 0 → left ≡ set used 0 done.bins → (0, record { bins = after; used = left }) ≡ write_out block runs count (record { bins = bins; used = used })
  unfolding write_laid
  write_laid_lem h k = rw (out-is, h, k)

  pub write_refused : (done.refusal ≡ 0 → ⊥) → (done.refusal, record { bins = after; used = used }) ≡ write_out block runs count (record { bins = bins; used = used })
  unfolding write_laid
  write_refused h = rw (out-is, ne_eqb done.refusal 0 h)
