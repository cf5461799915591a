-- The planner's answer: refusals in order, nothing to code, or the runs with their count and total.
use Rattle.std.specs.Prelude.{List, [], ◌∷◌, ℕ, ◌*◌, eqb, leb, length}
use Rattle.base.specs.Pick.{pick}
use Rattle.base.specs.Tests.{refusal}
use Rattle.model.specs.declared.PaletteCu.{PaletteCu}
use Rattle.model.specs.declared.PaletteRun.{PaletteRun}
use Rattle.model.specs.Whole.{max_index, block_size_in, holds}
use Rattle.rates.specs.declared.RateModel.{RateModel}
use Rattle.rates.specs.Rates.{rates_in}
use Rattle.paths.specs.Plan.{Job, job, price_of, planned}
use Rattle.finish.specs.Found.{laid_runs}
use Rattle.plan.specs.Planned.{Plan, Planned, Nothing, Runs, Refused}

-- a block's cells, M and prices
abbrev pub job_of : PaletteCu → RateModel → Job
job_of cu m = job cu.size (cu.size * cu.size) (max_index cu) cu.indices (price_of m (max_index cu))

abbrev pub plan_with : Planned → List PaletteRun → Plan
plan_with a rs = record { answer = a; runs = laid_runs rs }

abbrev pub refused_with : ℕ → Plan
refused_with number = plan_with (Refused number) []

-- the planned runs; none where M is 0
unfoldable pub runs_for : PaletteCu → RateModel → List PaletteRun
runs_for cu m = pick (eqb (max_index cu) 0) [] (planned (job_of cu m)).runs

unfoldable pub answer_for : PaletteCu → RateModel → Planned
answer_for cu m = pick (eqb (max_index cu) 0) Nothing (Runs (length (runs_for cu m)) (planned (job_of cu m)).total)

unfoldable pub plan_of : PaletteCu → RateModel → ℕ → Plan
plan_of cu m room =
    let number : ℕ = refusal ((block_size_in cu, 2) ∷ (rates_in m, 6) ∷ (holds 64 cu, 7) ∷ (leb (length (runs_for cu m)) room, 9) ∷ []) in
    pick (eqb number 0) (plan_with (answer_for cu m) (runs_for cu m)) (refused_with number)

-- the same of a block that holds together
abbrev pub block_plan : PaletteCu → RateModel → ℕ → Plan
block_plan cu m room = pick (leb (length (runs_for cu m)) room) (plan_with (answer_for cu m) (runs_for cu m)) (refused_with 9)
