-- One turn of the loop that lays the runs.
use Rattle.std.specs.Prelude.{◌≡◌, Bool, List, [], ◌∷◌, ℕ, suc, ◌+◌, ◌*◌}
use Rattle.std.proofs.Common.{arith}
use Rattle.std.proofs.lemmas.List.Edits.{sets}
use Rattle.h265.specs.Strings.{bit}
use Rattle.model.specs.declared.PaletteRun.{PaletteRun}
use Rattle.flatplan.specs.Flat.{flat_runs}
use Rattle.paths.specs.Plan.{Point}
use Rattle.walk.specs.Points.{run_in, runs_in}

-- a run's numbers
abbrev pub numbers_of : PaletteRun → List ℕ
numbers_of r = bit r.above ∷ r.sent ∷ r.more ∷ r.start ∷ []

-- the next run's numbers, and then those of the runs after it
pub flat-turn : (xs above : List ℕ) (p : ℕ) (k : Bool) (es : List Point) (e : Point) (rest : List Point) (l : List ℕ) (i : ℕ) → es ≡ e ∷ rest
    → sets l (4 * i) (flat_runs (runs_in xs above p k es)) ≡ sets (sets l (4 * i) (numbers_of (run_in xs above p k e.place e.kind))) (4 * (i + 1)) (flat_runs (runs_in xs above e.place e.kind rest))
unfolding flat_runs runs_in
flat-turn xs above p k es e rest l i z = let f : 4 * (i + 1) ≡ suc (suc (suc (suc (4 * i)))) = omega arith in rw (z, f)

pub flat-end : (xs above : List ℕ) (p : ℕ) (k : Bool) (es : List Point) (l : List ℕ) (i : ℕ) → es ≡ [] → l ≡ sets l i (flat_runs (runs_in xs above p k es))
unfolding flat_runs runs_in
flat-end xs above p k es l i z = rw z
