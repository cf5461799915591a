-- One step of the loop that measures the cells, from the last one back.
use Rattle.std.specs.Prelude.{◌≡◌, Bool, List, [], ◌∷◌, ℕ, zero, suc, ◌+◌, ◌*◌, ◌-◌, ◌/◌, ◌≤◌, ◌<◌, eqb, leb, get_or, set, length, ◌++◌, replicate, drop}
use Rattle.std.proofs.Math.Path.{refl}
use Rattle.std.proofs.lemmas.List.Edits.{fill_none, fill_more}
use Rattle.std.proofs.Common.{sym, ◌∙◌, add-one, suc-mul, add-mul, one-mul, zero-mul}
use Rattle.std.proofs.Math.Logic.{⊎_elim}
use native.Mathlib.Omega.{arith}
use Rattle.std.proofs.Math.Arith.{digits_div}
use borrow.Author.Tests.{eq-eqb, ne_eqb, eqb-true, eqb-false, lt-ltb, le-ltb, le-leb}
use Rattle.base.specs.Cells.{laid, laid_same, laid-back}
use Rattle.base.specs.Pick.{pick, either, lt_or_le}
use Rattle.base.specs.Tests.{every, pick_test}
use Rattle.h265.specs.Scan.{above_at}
use Rattle.h265.specs.ScanLaws.{above-closed}
use Rattle.paths.specs.Cells.{copies, lasts, index_length, above_length}
use Rattle.paths.specs.CellLaws.{index_same, index-last, index-other, above-yes, above_no, above_zero, above-some}
use Rattle.paths.specs.Stretch.{next_stretch, next-begins, next_not, next-inside, next-end}

-- ---- the cells above, row by row

pub row_first : (row size : ℕ) → 1 ≤ row → size ≤ row * size
row_first zero size h = absurd (omega arith)
row_first (suc row) size h = omega (arith, suc-mul row size)

pub next_row : (row size : ℕ) → row * size + size ≡ (row + 1) * size
next_row row size = sym (add-mul row 1 size ∙ rw one-mul)

pub above_low : (size : ℕ) (xs : List ℕ) (i : ℕ) → i < size → 0 ≡ above_at size xs i
unfolding above_at
above_low size xs i h = rw (lt-ltb i size h)

-- the first cells set to one number
pub laid_fill : (v : ℕ) (l : List ℕ) (n : ℕ) → n ≤ length l → replicate n v ++ drop n l ≡ laid (λ i. v) l 0 n
unfolding laid
laid_fill v l zero h = sym (fill_none l v)
laid_fill v l (suc n) h = let z : 0 + n ≡ n = omega arith in rw (z, ← laid_fill v l n (omega arith)) (sym (rw add-one at (fill_more n v l h)))

-- row 0
pub first-row : (size row : ℕ) (xs l : List ℕ) → row ≡ 0 → laid (λ i. 0) l 0 size ≡ laid (above_at size xs) l (row * size) size
first-row size row xs l e =
    let z : row * size ≡ 0 = rw e (zero-mul size) in
    rw z (laid_same (λ i. 0) (above_at size xs) l 0 size (λ j h. above_low size xs (0 + j) (omega arith)))

pub above_in-row : (size row j : ℕ) (xs : List ℕ) → 1 ≤ row → j < size → get_or xs (row * size - 1 - j) 0 ≡ above_at size xs (row * size + j)
unfolding above_at
above_in-row size row j xs h g =
    let o : size ≤ row * size + j = omega (arith, row_first row size h) in
    let d : (row * size + j) / size ≡ row = digits_div row g in
    let s : 1 ≤ size = omega arith in
    let e : 2 * (row * size) - (row * size + j + 1) ≡ row * size - 1 - j = omega arith in
    rw (le-ltb (row * size + j) size o, above-closed size (row * size + j) s o, d, e)

-- ---- lengths

module _ (n : ℕ) (xs : List ℕ) (p : ℕ) where
  pub index-end : index_length n xs n ≡ 0
  unfolding index_length lasts
  index-end = let e : n - n ≡ 0 = omega arith in rw e

  pub index-step : (next : ℕ) → p < n → (p + 1 < n → next ≡ get_or xs (p + 1) 0) → pick (eqb (get_or xs p 0) next) (index_length n xs (p + 1) + 1) 1 ≡ index_length n xs p
  index-step next h e =
      ⊎_elim
      (λ (l : p + 1 < n).
      rw (e l) (either (eqb (get_or xs p 0) (get_or xs (p + 1) 0))
      (λ t. rw t (sym (index_same n xs p l (eqb-true _ _ t))))
      (λ t. rw t (sym (index-other n xs p l (eqb-false _ _ t))))))
      (λ (l : n ≤ p + 1).
      let z : p + 1 ≡ n = omega arith in
      rw (z, index-end, index-last n xs p z) (either (eqb (get_or xs p 0) next) (λ t. rw t) (λ t. rw t)))
      (lt_or_le (p + 1) n)

module _ (size n : ℕ) (xs : List ℕ) (p : ℕ) where
  pub above-end : 0 ≡ above_length size n xs n
  unfolding above_length lasts
  above-end = let e : n - n ≡ 0 = omega arith in rw e

  pub copies-is : (up : ℕ) → up ≡ above_at size xs p → every (leb size p ∷ eqb (get_or xs p 0) up ∷ []) ≡ copies size xs p
  unfolding copies
  copies-is up e = rw e

  pub above_step : p < n → pick (copies size xs p) (above_length size n xs (p + 1) + 1) 0 ≡ above_length size n xs p
  above_step h = either (copies size xs p) (λ t. rw t (sym (above-yes size n xs p h t))) (λ t. rw t (sym (above_no size n xs p t)))

-- ---- stretches

-- the next stretch from p on, where `below` says whether the cell before p can be copied and `len` how many can be from p on
unfoldable pub stretch_step : Bool → ℕ → ℕ → ℕ → ℕ
stretch_step below len p after = pick (eqb len 0) after (pick below after p)

-- at the end of the cells there is none
unfoldable pub stretch_after : ℕ → ℕ → List ℕ → ℕ → ℕ
stretch_after size n xs p = pick (eqb p n) n (next_stretch size n xs (p + 1))

module _ (size n : ℕ) (xs : List ℕ) (p : ℕ) where
  pub stretch-none : n ≡ stretch_after size n xs n
  unfolding stretch_after
  stretch-none = rw (eq-eqb n n refl)

  pub stretch-step : p < n → stretch_step (copies size xs p) (above_length size n xs (p + 1)) (p + 1) (stretch_after size n xs (p + 1)) ≡ next_stretch size n xs (p + 1)
  unfolding stretch_step stretch_after
  stretch-step h =
      let z : p + 1 - 1 ≡ p = omega arith in
      ⊎_elim
      (λ (l : p + 1 < n).
      let o : p + 1 ≡ n → ⊥ = λ e. omega arith in
      rw (ne_eqb (p + 1) n o) (either (eqb (above_length size n xs (p + 1)) 0)
      (λ t. rw t (sym (next_not size n xs (p + 1) l (above_zero size n xs (p + 1) l (eqb-true _ _ t)))))
      (λ t. rw t (either (copies size xs p)
      (λ u. rw u (sym (next-inside size n xs (p + 1) l (rw z u))))
      (λ u. rw u (sym (next-begins size n xs (p + 1) l (above-some size n xs (p + 1) l (eqb-false _ _ t)) (rw z u))))))))
      (λ (l : n ≤ p + 1).
      let e : p + 1 ≡ n = omega arith in
      rw (e, eq-eqb n n refl, ← above-end size n xs n, next-end size n xs))
      (lt_or_le (p + 1) n)

  pub stretch-on : p < n → next_stretch size n xs (p + 1) ≡ stretch_after size n xs p
  unfolding stretch_after
  stretch-on h = let o : p ≡ n → ⊥ = λ e. omega arith in rw (ne_eqb p n o)

-- ---- one cell back of a loop that lays

pub laid-down : (f : ℕ → ℕ) (l out : List ℕ) (n p v : ℕ) → 0 < p → p ≤ n → out ≡ laid f l p (n - p) → v ≡ f (p - 1) → set out (p - 1) v ≡ laid f l (p - 1) (n - (p - 1))
laid-down f l out n p v h g e w = let z : p - 1 + 1 ≡ p = omega arith in laid-back f l out n (p - 1) v (omega arith) (rw z e) w

pub laid-after : (f : ℕ → ℕ) (l out : List ℕ) (n p v : ℕ) → 0 < p → p ≤ n → out ≡ laid f l (p + 1) (n + 1 - (p + 1)) → v ≡ f p → set out p v ≡ laid f l (p - 1 + 1) (n + 1 - (p - 1 + 1))
laid-after f l out n p v h g e w = let z : p - 1 + 1 ≡ p = omega arith in rw z (laid-back f l out (n + 1) p v (omega arith) e w)

-- ---- what the loop knows of the cells from p on

pub record Measured (size n : ℕ) (xs : List ℕ) (p after run copied stretch : ℕ) : Type 0 where
  pub after_is : p < n → after ≡ get_or xs p 0
  pub run_is : run ≡ index_length n xs p
  pub copied_is : copied ≡ above_length size n xs p
  pub stretch_is : stretch ≡ stretch_after size n xs p

pub measured_none : (size n : ℕ) (xs : List ℕ) → Measured size n xs n 0 0 0 n
measured_none size n xs = record {
  after_is = λ h. absurd (omega arith);
  run_is = sym (index-end n xs n);
  copied_is = above-end size n xs n;
  stretch_is = stretch-none size n xs n;
}

-- one cell back
module _ (size n : ℕ) (xs : List ℕ) (p after run copied stretch up : ℕ) (h : 0 < p) (g : p ≤ n) (e : up ≡ above_at size xs (p - 1)) (i : Measured size n xs p after run copied stretch) where
  back : p - 1 + 1 ≡ p
  back = omega arith

  -- a later row
  pub turn-here : size < p → eqb (get_or xs (p - 1) 0) up ≡ copies size xs (p - 1)
  turn-here l = let o : size ≤ p - 1 = omega arith in sym (pick_test (eqb (get_or xs (p - 1) 0) up)) ∙ (rw (le-leb size (p - 1) o) at (copies-is size n xs (p - 1) up e))

  pub turn_run : pick (eqb (get_or xs (p - 1) 0) after) (run + 1) 1 ≡ index_length n xs (p - 1)
  turn_run = rw i.run_is (rw back at (index-step n xs (p - 1) after (omega arith) (λ l. rw back (i.after_is (rw back at l)))))

  pub turn-stretch : stretch_step (copies size xs (p - 1)) copied p stretch ≡ next_stretch size n xs p
  turn-stretch = rw (i.copied_is, i.stretch_is) (rw back at (stretch-step size n xs (p - 1) (omega arith)))

  pub turn-copied : pick (copies size xs (p - 1)) (copied + 1) 0 ≡ above_length size n xs (p - 1)
  turn-copied = rw i.copied_is (rw back at (above_step size n xs (p - 1) (omega arith)))

  pub measured_turn : Measured size n xs (p - 1) (get_or xs (p - 1) 0) (index_length n xs (p - 1)) (above_length size n xs (p - 1)) (next_stretch size n xs p)
  measured_turn = record {
    after_is = λ l. refl;
    run_is = refl;
    copied_is = refl;
    stretch_is = rw back at (stretch-on size n xs (p - 1) (omega arith));
  }
