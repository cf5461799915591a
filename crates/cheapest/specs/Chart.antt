-- A table from which the cheapest path is walked back.
use Rattle.std.specs.Prelude.{◌≡◌, Bool, false, List, ℕ, Float}
use Rattle.std.specs.Float.Ieee.{lt}
use Rattle.base.specs.Pick.{pick}
use Rattle.paths.specs.Plan.{Job, trail, planned}
use Rattle.walk.specs.Points.{Falls, runs_in}

-- the runs lead back to the start, and those from the cheaper of the two ends are the planned ones
pub record Charted (j : Job) (above pos : List ℕ) (st : List Bool) (e0 e1 : Float) : Type 0 where
  pub falls : Falls pos
  pub path : record { total = pick (lt e1 e0) e1 e0; runs = runs_in j.xs above 0 false (trail pos st j.n j.n (lt e1 e0)) } ≡ planned j
