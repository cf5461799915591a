-- What the exported planner answers and leaves in the memory lent to it: the entry point's answer over the records that the lists of numbers are.
use Rattle.std.specs.Prelude.{List, ℕ, ◌/◌, Float, length, take, set}
use Rattle.std.specs.Float.{binary32}
use Rattle.std.specs.Float.Ieee.{of_bits}
use Rattle.std.proofs.lemmas.List.Edits.{sets}
use Rattle.flat.specs.Flat.{block_of}
use Rattle.flatplan.specs.Flat.{model_of, flat_runs}
use Rattle.model.specs.declared.PaletteCu.{PaletteCu}
use Rattle.model.specs.declared.PaletteRun.{PaletteRun}
use Rattle.rates.specs.declared.RateModel.{RateModel}
use Rattle.plan.specs.Planned.{Planned, Nothing, Runs, Refused}
use Rattle.plan.specs.Answer.{plan_of}

-- the memory lent: a run list of four numbers a run, a count's place and a total's
pub record Lent : Type 0 where
  pub runs : List ℕ
  pub count : List ℕ
  pub total : List Float

abbrev pub laid_nothing : List ℕ → List Float → ℕ × List ℕ × List Float
laid_nothing count total = (0, set count 0 0, set total 0 (of_bits binary32 0))

abbrev pub laid_runs : List PaletteRun → ℕ → Float → Lent → ℕ × Lent
laid_runs made n bits l = (0, record { runs = sets l.runs 0 (flat_runs (take n made)); count = set l.count 0 n; total = set l.total 0 bits })

-- a refusal leaves all as it was
unfoldable pub plan_laid : Planned → List PaletteRun → Lent → ℕ × Lent
plan_laid Nothing made l = (0, record { runs = l.runs; count = set l.count 0 0; total = set l.total 0 (of_bits binary32 0) })
plan_laid (Runs n bits) made l = laid_runs made n bits l
plan_laid (Refused k) made l = (k, l)

-- a block's plan, as many runs as there is room for
abbrev pub lent_out : PaletteCu → RateModel → Lent → ℕ × Lent
lent_out cu m l = plan_laid (plan_of cu m (length l.runs / 4)).answer (plan_of cu m (length l.runs / 4)).runs l

unfoldable pub plan_out : List ℕ → List Float → Lent → ℕ × Lent
plan_out block rates l = plan_laid (plan_of (block_of block) (model_of rates) (length l.runs / 4)).answer (plan_of (block_of block) (model_of rates) (length l.runs / 4)).runs l
