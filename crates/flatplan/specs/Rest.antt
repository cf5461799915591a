-- What is left to lay of an array's first runs, from place i on.
use Rattle.std.specs.Prelude.{◌≡◌, refl, List, [], ◌∷◌, ℕ, zero, suc, ◌+◌, ◌≤◌, ◌<◌, min, length, take, drop, get_or}
use Rattle.std.proofs.Math.Path.{ap}
use Rattle.std.proofs.Common.{sym, ◌∙◌, ⊎_elim, arith, take_all}
use Rattle.std.proofs.Math.Nat.{min-eq_left, min-eq_right}
use Rattle.base.specs.Counted.{read, end}
use Rattle.base.specs.Pick.{lt_or_le}
use Rattle.h265.specs.Strings.{bit}
use Rattle.model.specs.declared.PaletteRun.{PaletteRun}
use Rattle.flatplan.specs.Flat.{flat_runs, no_run}

module _ (rs : List PaletteRun) (count i : ℕ) where
  pub runs-next : i < count → count ≤ length rs
      → flat_runs (drop i (take count rs)) ≡ bit (get_or rs i no_run).above ∷ (get_or rs i no_run).sent ∷ (get_or rs i no_run).more ∷ (get_or rs i no_run).start ∷ flat_runs (drop (i + 1) (take count rs))
  unfolding flat_runs
  runs-next h o = ap flat_runs (read rs count i no_run h o)

  pub runs-end : count ≤ i → count ≤ length rs → flat_runs (drop i (take count rs)) ≡ []
  unfolding flat_runs
  runs-end h o = ap flat_runs (end rs count i h o)

-- a count over the array's length takes the whole of it
pub take-held : (rs : List PaletteRun) (count : ℕ) → length rs ≡ 1024 → take (min count 1024) rs ≡ take count rs
take-held rs count n =
    ⊎_elim
    (λ (h : count < 1024). let l : count ≤ 1024 = omega arith in rw (min-eq_left l))
    (λ (h : 1024 ≤ count). rw (min-eq_right h) (take_all 1024 rs (omega arith) ∙ sym (take_all count rs (omega arith))))
    (lt_or_le count 1024)

-- within a list the default is not read
pub get_d_within : {A : Type 0} (l : List A) (i : ℕ) (d e : A) → i < length l → get_or l i d ≡ get_or l i e
get_d_within [] i d e h = absurd (omega arith)
get_d_within (x ∷ l) zero d e h = refl
get_d_within (x ∷ l) (suc i) d e h = get_d_within l i d e (omega arith)
