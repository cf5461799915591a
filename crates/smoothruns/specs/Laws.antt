-- The ways of a run, and one turn of the loop over runs.
use Rattle.std.specs.Prelude.{Bool, true, false, ◌||◌, List, ◌≡◌, ℕ, ◌+◌, ◌*◌, ◌-◌, ◌<◌, get_or}
use Rattle.std.proofs.Common.{ap, sym, ◌∙◌, eq-eqb, ne_eqb}
use Rattle.base.specs.Cells.{laid}
use Rattle.base.specs.Pick.{pick}
use Rattle.base.specs.Tests.{or_pick}
use Rattle.smooth.specs.Smooth.{run_length, copied_from, Scene, Map, map, joins, copies, run_smoothed, smoothed_from}
use Rattle.smooth.specs.Laws.{smooth_turn}

module _ (s : Scene) (is : List ℕ) (start len : ℕ) where
  abbrev value : ℕ
  value = get_or is start 0

  pub run_escape : value ≡ s.escape → map is false ≡ run_smoothed s is start len
  unfolding run_smoothed
  run_escape e = rw (eq-eqb value s.escape e)

  pub run_joined : (js : List ℕ) → (value ≡ s.escape → ⊥) → joins s is start len ≡ true → js ≡ laid (λ (i : ℕ). get_or is (start - 1) 0) is start len → map js true ≡ run_smoothed s is start len
  unfolding run_smoothed
  run_joined js n e h = rw (ne_eqb value s.escape n, e, h)

  pub run_copied : (js : List ℕ) → (value ≡ s.escape → ⊥) → joins s is start len ≡ false → copies s is start len ≡ true → js ≡ copied_from s.size is start len → map js true ≡ run_smoothed s is start len
  unfolding run_smoothed
  run_copied js n e c h = rw (ne_eqb value s.escape n, e, c, h)

  pub run_kept : (value ≡ s.escape → ⊥) → joins s is start len ≡ false → copies s is start len ≡ false → map is false ≡ run_smoothed s is start len
  unfolding run_smoothed
  run_kept n e c = rw (ne_eqb value s.escape n, e, c)

-- one turn of the loop over runs: what is left makes the whole
pub smooth_step : (s : Scene) (start len : ℕ) (is js : List ℕ) (r changed : Bool) (all : Map) → start < s.size * s.size → len ≡ run_length (s.size * s.size) is start → map js r ≡ run_smoothed s is start len
    → smoothed_from s (s.size * s.size - start) start (map is changed) ≡ all → smoothed_from s (s.size * s.size - (start + len)) (start + len) (map js (r || changed)) ≡ all
smooth_step s start len is js r changed all h l m e =
    rw (or_pick r changed)
    (ap (λ (o : Map). smoothed_from s (s.size * s.size - (start + len)) (start + len) (map o.indices (pick o.changed true changed))) m
    ∙ rw l (sym (smooth_turn s start (map is changed) h))
    ∙ e)
