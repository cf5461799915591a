-- A list whose cells get their levels, 0 first and then those of escapes.
use Rattle.std.specs.Prelude.{◌≡◌, ℕ, ◌+◌, ◌≤◌, ◌<◌, eqb, set}
use Rattle.std.proofs.Math.Path.{refl, ap, sym}
use Rattle.std.proofs.Common.{◌∙◌, arith}
use mathlib.Core.List.{List}
use Rattle.std.proofs.Math.Logic.{⊎_elim}
use Rattle.std.proofs.Math.ListN.{length, get_or}
use Rattle.std.proofs.lemmas.List.{set-get_or}
use Rattle.std.proofs.Math.Seq.{ext_get_or}
use Rattle.base.specs.Pick.{pick, either, lt_or_le}
use Rattle.base.specs.Cells.{laid, laid_none, laid_on_lem, laid_in, laid-after, laid-length}
use Rattle.flat.specs.Flat.{block_of}
use Rattle.levels.specs.Levels.{levels_of, levels_at, value_at}
use Rattle.levels.specs.declared.Scale.{Scale}
use Rattle.model.specs.declared.Levels.{Levels}
use Rattle.model.specs.Whole.{no_levels}
use Rattle.flatassign.specs.Places.{three_at, with_levels, levels-set, own-levels, escapes-long}

-- ---- 0 in the first cells

unfoldable pub cleared : ℕ → List Levels → List Levels
cleared m ls = laid (λ _. no_levels) ls 0 m

pub clear_start : (l : List ℕ) → l ≡ with_levels l (cleared 0 (block_of l).escapes)
unfolding cleared
clear_start l = sym (own-levels l) ∙ ap (with_levels l) (sym (laid_none (λ _. no_levels) (block_of l).escapes 0))

pub clear_turn : (l list : List ℕ) (i : ℕ) → i < 1024 → list ≡ with_levels l (cleared i (block_of l).escapes) → three_at list i no_levels ≡ with_levels l (cleared (i + 1) (block_of l).escapes)
unfolding cleared
clear_turn l list i h e =
    let ls = laid (λ _. no_levels) (block_of l).escapes 0 i in
    ap (λ (x : List ℕ). three_at x i no_levels) e
    ∙ levels-set l ls i no_levels (omega (arith, escapes-long l, laid-length (λ _. no_levels) (block_of l).escapes 0 i))
    ∙ ap (with_levels l) (laid_on_lem (λ _. no_levels) (block_of l).escapes ls i no_levels refl refl)

-- ---- the levels of escapes

module _ (s : Scale) (palette : List ℕ) (n : ℕ) (indices scan : List ℕ) where
  abbrev pub cell_levels : ℕ → Levels
  cell_levels j = levels_at s n (get_or indices j 0) (get_or scan j 0)

  abbrev pub cell_value : ℕ → ℕ
  cell_value j = value_at s palette n (get_or indices j 0) (cell_levels j)

  -- from a list whose first m cells have none, that with the levels of the first i cells
  abbrev pub Fills : ℕ → List ℕ → ℕ → List ℕ → Type 0
  Fills m before i after = (l : List ℕ) (ls : List Levels) → length ls ≡ 1024 → before ≡ with_levels l (cleared m ls) → after ≡ with_levels l (laid cell_levels (cleared m ls) 0 i)

  pub fill_start : (m : ℕ) (list : List ℕ) → Fills m list 0 list
  fill_start m list l ls h e = e ∙ ap (with_levels l) (sym (laid_none cell_levels (cleared m ls) 0))

  pub fill_turn : (m : ℕ) (before list list' : List ℕ) (i : ℕ) → i < m → m ≤ 1024 → Fills m before i list
      → list' ≡ pick (eqb (get_or indices i 0) n) (three_at list i (levels_of s (get_or scan i 0))) list → Fills m before (i + 1) list'
  unfolding cleared levels_at
  fill_turn m before list list' i h k f e l ls o b =
      let zs = cleared m ls in
      let now = laid cell_levels zs 0 i in
      let long : length now ≡ 1024 = laid-length cell_levels zs 0 i ∙ laid-length (λ _. no_levels) ls 0 m ∙ o in
      either (eqb (get_or indices i 0) n)
      (λ t.
      let v : levels_of s (get_or scan i 0) ≡ cell_levels i = sym (rw t) in
      rw t at e
      ∙ ap (λ (x : List ℕ). three_at x i (levels_of s (get_or scan i 0))) (f l ls o b)
      ∙ levels-set l now i (levels_of s (get_or scan i 0)) (omega arith)
      ∙ ap (with_levels l) (laid_on_lem cell_levels zs now i (levels_of s (get_or scan i 0)) refl v))
      (λ t.
      let v : no_levels ≡ cell_levels i = sym (rw t) in
      let g : get_or now i no_levels ≡ no_levels =
      laid-after cell_levels zs 0 i i no_levels (omega arith) ∙ laid_in (λ _. no_levels) ls 0 m i no_levels (omega arith) (omega arith) (omega arith)
      in
      rw t at e
      ∙ f l ls o b
      ∙ ap (with_levels l) (sym (set-get_or now i no_levels) ∙ ap (set now i) g ∙ laid_on_lem cell_levels zs now i no_levels refl v))

  laid-over : (m : ℕ) (ls : List Levels) → length ls ≡ 1024 → m ≤ 1024 → laid cell_levels (cleared m ls) 0 m ≡ laid cell_levels ls 0 m
  unfolding cleared
  laid-over m ls o k =
      let zs = cleared m ls in
      let z : length zs ≡ length ls = laid-length (λ _. no_levels) ls 0 m in
      ext_get_or no_levels (laid cell_levels zs 0 m) (laid cell_levels ls 0 m) (laid-length cell_levels zs 0 m ∙ z ∙ sym (laid-length cell_levels ls 0 m))
      (λ i h.
      ⊎_elim
      (λ (a : i < m). laid_in cell_levels zs 0 m i no_levels (omega arith) (omega arith) (omega arith) ∙ sym (laid_in cell_levels ls 0 m i no_levels (omega arith) (omega arith) (omega arith)))
      (λ (a : m ≤ i). laid-after cell_levels zs 0 m i no_levels (omega arith) ∙ laid-after (λ _. no_levels) ls 0 m i no_levels (omega arith) ∙ sym (laid-after cell_levels ls 0 m i no_levels (omega arith)))
      (lt_or_le i m))

  -- all of them, in a list that was cleared
  pub fill_end : (m : ℕ) (l before after : List ℕ) → m ≤ 1024 → before ≡ with_levels l (cleared m (block_of l).escapes) → Fills m before m after → after ≡ with_levels l (laid cell_levels (block_of l).escapes 0 m)
  fill_end m l before after h e f = f l (block_of l).escapes (escapes-long l) e ∙ ap (with_levels l) (laid-over m (block_of l).escapes (escapes-long l) h)
