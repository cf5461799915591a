-- The first runs of a list of numbers, one after another; and that runs laid flat are read back.
use Rattle.std.specs.Prelude.{◌≡◌, refl, Bool, true, false, List, [], ◌∷◌, ◌++◌, ℕ, zero, suc, ◌+◌, ◌*◌, ◌≤◌, ◌<◌, min, eqb, length, take, drop, get_or, replicate}
use Rattle.std.proofs.Common.{ap, sym, ◌∙◌, arith, length-take, ext_get_or, get_or-take}
use Rattle.std.proofs.Math.Nat.{min-eq_left}
use Rattle.std.proofs.Math.ListN.{length-replicate}
use Rattle.std.proofs.lemmas.List.Edits.{sets, sets-eq}
use Rattle.base.specs.Cells.{laid-length, laid_in}
use Rattle.base.specs.Counted.{read, end}
use Rattle.h265.specs.Strings.{bit}
use Rattle.flat.specs.Flat.{number}
use Rattle.model.specs.declared.PaletteRun.{PaletteRun}
use Rattle.flatplan.specs.Flat.{flat_runs, run_at, no_run, runs_of, first_of}

module _ (l : List ℕ) (count : ℕ) where
  pub runs-long : length (runs_of l count) ≡ 1024
  unfolding runs_of
  runs-long = laid-length _ _ 0 (min count 1024) ∙ length-replicate 1024 no_run

  pub run_is : (i : ℕ) → i < min count 1024 → get_or (runs_of l count) i no_run ≡ run_at l (4 * i)
  unfolding runs_of
  run_is i h = laid_in (λ (j : ℕ). run_at l (4 * j)) (replicate 1024 no_run) 0 (min count 1024) i no_run (omega arith) (omega arith) (omega (arith, length-replicate 1024 no_run))

  pub first_next : (i : ℕ) → i < count → count ≤ 1024 → drop i (first_of l count) ≡ run_at l (4 * i) ∷ drop (i + 1) (first_of l count)
  first_next i h o =
      read (runs_of l count) count i no_run h (omega (arith, runs-long))
      ∙ ap (λ (r : PaletteRun). r ∷ drop (i + 1) (first_of l count)) (run_is i (omega (arith, min-eq_left o)))

  pub first-end : (i : ℕ) → count ≤ i → count ≤ 1024 → drop i (first_of l count) ≡ []
  first-end i h o = end (runs_of l count) count i h (omega (arith, runs-long))

-- ---- laid and read back

bit-on : (b : Bool) → eqb (bit b) 1 ≡ b
bit-on true = refl
bit-on false = refl

four : (i j : ℕ) → 4 * suc i + j ≡ suc (suc (suc (suc (4 * i + j))))
four i j = omega arith

four-none : (i : ℕ) → 4 * suc i ≡ suc (suc (suc (suc (4 * i))))
four-none i = omega arith

flat-at : (rs : List PaletteRun) (i : ℕ) → i < length rs → run_at (flat_runs rs) (4 * i) ≡ get_or rs i no_run
unfolding flat_runs run_at
flat-at [] i h = absurd (omega arith)
flat-at (r ∷ rs) zero h = rw (bit-on r.above)
flat-at (r ∷ rs) (suc i) h = rw (four i 1, four i 2, four i 3, four-none i) (flat-at rs i (omega arith))

flat-length : (rs : List PaletteRun) → length (flat_runs rs) ≡ 4 * length rs
unfolding flat_runs
flat-length [] = refl
flat-length (r ∷ rs) = rw (four-none (length rs), flat-length rs)

front : (s t : List ℕ) (i : ℕ) → i < length s → number (s ++ t) i ≡ number s i
front [] t i h = absurd (omega arith)
front (a ∷ s) t zero h = refl
front (a ∷ s) t (suc i) h = front s t i (omega arith)

-- what is laid from the start on is read
laid-number : (l s : List ℕ) (i : ℕ) → length s ≤ length l → i < length s → number (sets l 0 s) i ≡ number s i
laid-number l s i h k = rw (sets-eq s l 0 (omega arith)) (front s (drop (0 + length s) l) i k)

laid_run : (l s : List ℕ) (p : ℕ) → length s ≤ length l → p + 3 < length s → run_at (sets l 0 s) p ≡ run_at s p
unfolding run_at
laid_run l s p h k = rw (laid-number l s p h (omega arith), laid-number l s (p + 1) h (omega arith), laid-number l s (p + 2) h (omega arith), laid-number l s (p + 3) h k)

pub flat-first : (l : List ℕ) (rs : List PaletteRun) (count : ℕ) → 4096 ≤ length l → length rs ≡ 1024 → first_of (sets l 0 (flat_runs (take count rs))) count ≡ take count rs
flat-first l rs count h n =
    let m : List ℕ = sets l 0 (flat_runs (take count rs)) in
    let t : length (take count rs) ≡ min count 1024 = length-take count rs ∙ ap (min count) n in
    let a : length (first_of m count) ≡ min count 1024 = length-take count (runs_of m count) ∙ ap (min count) (runs-long m count) in
    let f = flat-length (take count rs) in
    ext_get_or no_run (first_of m count) (take count rs) (a ∙ sym t) (λ i k.
    let j : i < min count 1024 = omega arith in
    let c : i < count = omega arith in
    get_or-take count (runs_of m count) i no_run c
    ∙ run_is m count i j
    ∙ laid_run l (flat_runs (take count rs)) (4 * i) (omega arith) (omega arith)
    ∙ flat-at (take count rs) i (omega arith))
