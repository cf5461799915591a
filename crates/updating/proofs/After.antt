-- The predictor that was lent to an update, after it.
use Rattle.std.specs.Prelude.{◌≡◌, ℕ, take}
use Rattle.std.proofs.Common.{ne_eqb}
use Rattle.h265.specs.Predictor.{updated}
use Rattle.model.specs.declared.PaletteCu.{PaletteCu}
use Rattle.model.specs.declared.PalettePredictor.{PalettePredictor}
use Rattle.predictor.specs.Update.{predictor_of, renewed_of, update_refusal, update_of}

module _ (p : PalettePredictor) (cu : PaletteCu) (limit : ℕ) where
  -- H.265'S RULE: the palette in order, then the old entries that were not reused, up to the limit; their count is the size, and past them no slot holds anything
  pub after_update : (update_of p cu limit).refusal ≡ 0 → (update_of p cu limit).predictor ≡ predictor_of (updated limit (take cu.palette_size cu.palette) (take cu.pred_size cu.reused) (take p.size p.entries))
  unfolding update_of renewed_of
  after_update e = rw e

  -- A REFUSAL LEAVES IT UNTOUCHED
  pub after-refused : ((update_of p cu limit).refusal ≡ 0 → ⊥) → (update_of p cu limit).predictor ≡ p
  unfolding update_of
  after-refused o = rw (ne_eqb (update_refusal p cu limit) 0 o)
