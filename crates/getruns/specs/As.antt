-- The code's answer as that of the definitions.
use Rattle.std.specs.Prelude.{◌≡◌, Result, Ok, Err, List, ℕ, length, take}
use Rattle.base.specs.Answer.{Answer}
use Rattle.base.specs.Answer as A
use Rattle.base.specs.Lists.{padded}
use Rattle.refusal.specs.Refusal.{number_of}
use Rattle.refusal.specs.declared.Refused.{Refused}
use Rattle.syntax.specs.Records.{no_run}
use Rattle.syntax.specs.Runs.{Run}
use Rattle.getruns.specs.declared.RunsRead.{RunsRead}

-- the first `count` runs and the place after them, or a refusal's number and place
abbrev pub as_runs : Result RunsRead Refused → ℕ → Answer (List Run)
as_runs (Ok r) q = A.Value (take r.count r.runs) q
as_runs (Err e) q = A.Refused (number_of e.refusal) e.place

-- an array that holds `count` runs and is blank past them
abbrev pub RestBlank : ℕ → List Run → Type 0
RestBlank count runs = (runs ≡ padded 1024 no_run (take count runs)) × (length (take count runs) ≡ count)
