-- The planner's answer with the runs beside it, and the code's result as such.
use Rattle.std.specs.Prelude.{List, ℕ, Float, Option, Some, None, Result, Ok, Err}
use Rattle.model.specs.declared.PaletteRun.{PaletteRun}
use Rattle.refusal.specs.declared.Refusal.{Refusal}
use Rattle.refusal.specs.Refusal.{number_of}
use Rattle.finish.specs.declared.Found.{Found}
use Rattle.finish.specs.Found.{blank_runs}

-- nothing to code, a count of runs with the total in bits, or a refusal's number
pub data Planned : Type 0 where
  Nothing : Planned
  Runs : ℕ → Float → Planned
  Refused : ℕ → Planned

-- the answer, and the runs beside it: the first of 1024, which else are blank
pub record Plan : Type 0 where
  pub answer : Planned
  pub runs : List PaletteRun

abbrev pub as_plan : Result (Option Found) Refusal → Plan
as_plan (Ok None) = record { answer = Nothing; runs = blank_runs }
as_plan (Ok (Some f)) = record { answer = Runs f.count f.total; runs = f.runs }
as_plan (Err r) = record { answer = Refused (number_of r); runs = blank_runs }
