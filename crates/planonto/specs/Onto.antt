-- A plan's runs on a list of numbers.
use Rattle.std.specs.Prelude.{◌≡◌, List, ℕ, ◌/◌, ◌≤◌, leb, Float, length}
use Rattle.std.proofs.lemmas.List.Edits.{sets}
use Rattle.base.specs.Pick.{pick}
use Rattle.flatplan.specs.Flat.{flat_runs}
use Rattle.paths.specs.Plan.{Planned}

-- count and total are the plan's; the runs are on the list from its start on, or all is as it was where there is no room
pub record OnList (w : Planned) (l : List ℕ) (count : ℕ) (total : Float) (l' : List ℕ) : Type 0 where
  pub number : count ≡ length w.runs
  pub few : count ≤ 1024
  pub sum : total ≡ w.total
  pub list : l' ≡ pick (leb (length w.runs) (length l / 4)) (sets l 0 (flat_runs w.runs)) l
