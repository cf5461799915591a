-- What the functions want of the definitions.
use Rattle.std.specs.Prelude.{◌≡◌, refl, Bool, false, List, [], ◌∷◌, ℕ, suc, Float, length}
use Rattle.std.proofs.Common.{ap}
use Rattle.paths.specs.Plan.{Point}
use Rattle.walk.specs.Points.{runs_in}
use Rattle.finish.specs.Found.{laid_runs, found}

pub length_runs : (xs above : List ℕ) (p : ℕ) (k : Bool) (es : List Point) → length (runs_in xs above p k es) ≡ length es
unfolding runs_in
length_runs xs above p k [] = refl
length_runs xs above p k (e ∷ es) = ap suc (length_runs xs above e.place e.kind es)

pub found-is : (c : ℕ) (total : Float) (xs above : List ℕ) (es : List Point) → c ≡ length es
    → record { count = c; total = total; runs = laid_runs (runs_in xs above 0 false es) } ≡ found total (runs_in xs above 0 false es)
found-is c total xs above es e = rw (length_runs xs above 0 false es, e)
