-- The ends of a path's runs in two arrays, and the runs between them.
use Rattle.std.specs.Prelude.{◌≡◌, Bool, false, List, [], ◌∷◌, map, ℕ, zero, suc, ◌-◌, ◌≤◌, ◌<◌, get_or, length}
use Rattle.std.proofs.lemmas.List.Edits.{sets}
use Rattle.base.specs.Pick.{pick}
use Rattle.model.specs.declared.PaletteRun.{PaletteRun}
use Rattle.cells.specs.Steps.{reference_in}
use Rattle.paths.specs.Cells.{sent_from}
use Rattle.paths.specs.Plan.{slot, Point, point}

-- each run starts before it ends
pub record Falls (pos : List ℕ) : Type 0 where
  pub lower : (q : ℕ) (k : Bool) → 0 < q → get_or pos (slot q k) 0 < q

-- the points es stand at the front of the two arrays, r of them, and what follows is as it was
pub record LaidPoints (es : List Point) (r : ℕ) (ends₀ ends : List ℕ) (kinds₀ kinds : List Bool) : Type 0 where
  pub count : r ≡ length es
  pub places : ends ≡ sets ends₀ 0 (map (λ (e : Point). e.place) es)
  pub sorts : kinds ≡ sets kinds₀ 0 (map (λ (e : Point). e.kind) es)

-- the c points from i on
unfoldable pub points_in : List ℕ → List Bool → ℕ → ℕ → List Point
points_in ends kinds i zero = []
points_in ends kinds i (suc c) = point (get_or ends i 0) (get_or kinds i false) ∷ points_in ends kinds (suc i) c

-- each further on than the one before, and none past 1024
abbrev pub Rising : ℕ → List Point → Type 0
Rising p [] = Unit {0}
Rising p (e ∷ es) = (p < e.place) × (e.place ≤ 1024) × Rising e.place es

abbrev pub no_run : PaletteRun
no_run = record { above = false; sent = 0; more = 0; start = 0 }

unfoldable pub run_in : List ℕ → List ℕ → ℕ → Bool → ℕ → Bool → PaletteRun
run_in xs above p pk q k = record { above = k; sent = pick k 0 (sent_from p (get_or xs p 0) (reference_in xs above p pk)); more = q - p - 1; start = p }

unfoldable pub runs_in : List ℕ → List ℕ → ℕ → Bool → List Point → List PaletteRun
runs_in xs above p k [] = []
runs_in xs above p k (e ∷ es) = run_in xs above p k e.place e.kind ∷ runs_in xs above e.place e.kind es
