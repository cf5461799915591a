-- Rate models and run lists as lists of numbers; the layout stands in src/lib.rt.
use Rattle.std.specs.Prelude.{false, List, [], ◌∷◌, ℕ, ◌+◌, ◌*◌, min, eqb, Float, get_or, replicate, take}
use Rattle.std.specs.Float.{binary32}
use Rattle.std.specs.Float.Ieee.{of_bits}
use Rattle.base.specs.Cells.{laid}
use Rattle.h265.specs.Strings.{bit}
use Rattle.flat.specs.Flat.{number, each}
use Rattle.model.specs.declared.PaletteRun.{PaletteRun}
use Rattle.rates.specs.declared.Pair.{Pair}
use Rattle.rates.specs.declared.RateModel.{RateModel}

-- the rate at a place, 0 past the end
abbrev pub rate_at : List Float → ℕ → Float
rate_at l i = get_or l i (of_bits binary32 0)

unfoldable pub pair_at : List Float → ℕ → Pair
pair_at l p = record { bin0 = rate_at l p; bin1 = rate_at l (p + 1) }

abbrev pub no_pair : Pair
no_pair = record { bin0 = of_bits binary32 0; bin1 = of_bits binary32 0 }

unfoldable pub model_of : List Float → RateModel
model_of l = record { run_type = pair_at l 0; run_prefix = each no_pair 8 (λ i. pair_at l (2 + 2 * i)) }

unfoldable pub flat_runs : List PaletteRun → List ℕ
flat_runs [] = []
flat_runs (r ∷ rs) = bit r.above ∷ r.sent ∷ r.more ∷ r.start ∷ flat_runs rs

unfoldable pub run_at : List ℕ → ℕ → PaletteRun
run_at l p = record { above = eqb (number l p) 1; sent = number l (p + 1); more = number l (p + 2); start = number l (p + 3) }

abbrev pub no_run : PaletteRun
no_run = record { above = false; sent = 0; more = 0; start = 0 }

-- the first runs of a list, at most 1024, and blank ones after them
unfoldable pub runs_of : List ℕ → ℕ → List PaletteRun
runs_of l count = laid (λ i. run_at l (4 * i)) (replicate 1024 no_run) 0 (min count 1024)

-- the first runs alone
abbrev pub first_of : List ℕ → ℕ → List PaletteRun
first_of l count = take count (runs_of l count)
