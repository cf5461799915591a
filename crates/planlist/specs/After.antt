-- The run list that was lent to the planner, after the call.
use Rattle.std.specs.Prelude.{List, ℕ, Float, Option, Some, None, Result, Ok, Err, length}
use Rattle.model.specs.declared.PaletteCu.{PaletteCu}
use Rattle.model.specs.declared.PaletteRun.{PaletteRun}
use Rattle.rates.specs.declared.RateModel.{RateModel}
use Rattle.refusal.specs.declared.Refusal.{Refusal}
use Rattle.refusal.specs.Refusal.{number_of}
use Rattle.plan.specs.Planned.{Planned, Nothing, Runs, Refused}
use Rattle.plan.specs.Answer.{plan_of}
use Rattle.runlist.specs.Lists.{laid_on}

-- the code's result as the planner's answer
abbrev pub as_planned : Result (Option (ℕ × Float)) Refusal → Planned
as_planned (Ok None) = Nothing
as_planned (Ok (Some t)) = Runs t.0 t.1
as_planned (Err r) = Refused (number_of r)

-- the runs that an answer counts
unfoldable pub count_of : Planned → ℕ
count_of Nothing = 0
count_of (Runs n total) = n
count_of (Refused k) = 0

-- the plan's runs from the list's start on, as many as its answer counts, and then what stood there
unfoldable pub runs_after : PaletteCu → RateModel → List PaletteRun → List PaletteRun
runs_after cu m l = laid_on l (plan_of cu m (length l)).runs (count_of (plan_of cu m (length l)).answer)

-- a planner's answer with the count of its runs, and the runs to be laid
pub record Counted : Type 0 where
  pub answer : Planned
  pub count : ℕ
  pub runs : List PaletteRun

-- the plan with its count
unfoldable pub counted_of : PaletteCu → RateModel → ℕ → Counted
counted_of cu m room = record { answer = (plan_of cu m room).answer; count = count_of (plan_of cu m room).answer; runs = (plan_of cu m room).runs }
