-- The predictor after a block: document 01's "Update" and its refusals 2, 5 and 7.
use Rattle.std.specs.Prelude.{Bool, Result, Ok, Err, List, [], ◌∷◌, ◌++◌, ℕ, ◌-◌, eqb, leb, length, take, replicate}
use Rattle.base.specs.Pick.{pick}
use Rattle.base.specs.Tests.{every, refusal}
use Rattle.h265.specs.Predictor.{updated}
use Rattle.model.specs.declared.Color.{Color}
use Rattle.model.specs.declared.PaletteCu.{PaletteCu}
use Rattle.model.specs.declared.PalettePredictor.{PalettePredictor}
use Rattle.model.specs.Domain.{no_color, predictor_in}
use Rattle.model.specs.Whole.{block_size_in, holds}
use Rattle.refusal.specs.Refusal.{number_of}
use Rattle.refusal.specs.declared.Refusal.{Refusal}

-- n entries: those of a list, and none after them
unfoldable pub padded : ℕ → List Color → List Color
padded n xs = xs ++ replicate (n - length xs) no_color

abbrev pub predictor_of : List Color → PalettePredictor
predictor_of xs = record { entries = padded 128 xs; size = length xs }

unfoldable pub empty_predictor : PalettePredictor
empty_predictor = predictor_of []

-- palette first, then unflagged old entries in order, up to the limit
unfoldable pub renewed_of : ℕ → List Color → List Bool → List Color → PalettePredictor
renewed_of limit palette flags old = predictor_of (updated limit palette flags old)

unfoldable pub update_refusal : PalettePredictor → PaletteCu → ℕ → ℕ
update_refusal p cu limit =
    refusal
    ((block_size_in cu, 2)
    ∷ (every (predictor_in cu.chroma_idc cu.bd_luma cu.bd_chroma p ∷ leb limit 128 ∷ []), 5)
    ∷ (holds 64 cu, 7) ∷ [])

-- an update's answer: a refusal's number, 0 where there is none, and the predictor after it
pub record Updated : Type 0 where
  pub refusal : ℕ
  pub predictor : PalettePredictor

-- the answer to an update of p
abbrev pub as_updated : PalettePredictor → Result PalettePredictor Refusal → Updated
as_updated p (Ok q) = record { refusal = 0; predictor = q }
as_updated p (Err r) = record { refusal = number_of r; predictor = p }

-- the predictor that came in where there is a refusal
unfoldable pub update_of : PalettePredictor → PaletteCu → ℕ → Updated
update_of p cu limit = record {
  refusal = update_refusal p cu limit;
  predictor =
      pick (eqb (update_refusal p cu limit) 0)
      (renewed_of limit (take cu.palette_size cu.palette) (take cu.pred_size cu.reused) (take p.size p.entries))
      p;
}
