-- 5, 7, and the colours: a refusal by 5 or 7 leaves all that was lent as it was.
use Rattle.std.specs.Prelude.{◌≡◌, Bool, true, false, List, [], ◌∷◌, ℕ, ◌+◌, ◌*◌, ◌≤◌, leb}
use Rattle.std.proofs.Common.{sym, ◌∙◌, arith}
use Rattle.std.proofs.lemmas.List.Edits.{sets}
use Rattle.base.specs.Tests.{every, refusal}
use Rattle.model.specs.Domain.{predictor_in}
use Rattle.model.specs.declared.PaletteConfig.{PaletteConfig}
use Rattle.model.specs.declared.PalettePredictor.{PalettePredictor}
use Rattle.colors.specs.Table.{none_above}
use Rattle.colors.specs.declared.ColorIndex.{ColorIndex}
use Rattle.analysis.specs.Analyze.{lent_in, few_colors, answer_of}
use Rattle.analysis.specs.Laws.{refused-lent, refused_tolerance, lent-taken, lent_bounds, lent_refused}
use Rattle.flat.specs.Flat.{number, each}
use Rattle.flatcounter.specs.Counter.{counter_of, marks_of}
use Rattle.flatchoose.specs.Choose.{Lent, counter_lent, block_laid, choose_out}
use Rattle.flatchoose.specs.ChooseLaws.{back, laid_as, lent_laid}
use Rattle.flatanalyse.specs.Cells.{cells_out}

module _ (xs : List ℕ) (c : PaletteConfig) (size : ℕ) (p : PalettePredictor) (tol : ℕ) (l : Lent) where
  pub lent_is : (r : Bool) (marks : List ℕ) (g : ℕ) → marks ≡ each 0 256 (λ i. number l.stamp (1 + i)) → g ≡ number l.stamp 0
      → r ≡ every (predictor_in c.chroma_idc c.bd_luma c.bd_chroma p ∷ none_above g marks ∷ []) → r ≡ lent_in c p (counter_lent l)
  unfolding lent_in counter_of
  lent_is r marks g m h e = e ∙ rw (m, h)

  pub lent_then : (r : Bool) (marks : List ℕ) (g : ℕ) → r ≡ every (predictor_in c.chroma_idc c.bd_luma c.bd_chroma p ∷ none_above g marks ∷ []) → r ≡ true → (p.size ≤ 128) × (none_above g marks ≡ true)
  unfolding lent_in
  lent_then r marks g e h = lent_bounds c p (record { keys = []; entry = []; stamp = marks; generation = g }) (sym e ∙ h)

  pub lent_out : lent_in c p (counter_lent l) ≡ false → (5, l) ≡ cells_out xs c size p tol l
  lent_out e = back l 5 (λ z. omega arith) ∙ laid_as l (refused-lent xs c size p (counter_lent l) tol e)

  pub tolerance_out : lent_in c p (counter_lent l) ≡ true → leb tol 16 ≡ false → (7, l) ≡ cells_out xs c size p tol l
  tolerance_out e t = back l 7 (λ z. omega arith) ∙ laid_as l (refused_tolerance xs c size p (counter_lent l) tol e t)

  pub taken_out : lent_in c p (counter_lent l) ≡ true → leb tol 16 ≡ true → choose_out xs c size p tol l ≡ cells_out xs c size p tol l
  taken_out e t = laid_as l (lent-taken xs c size p (counter_lent l) tol e t)

  -- 5 or 7, by the number answered
  pub checked_out : (r : ℕ) → r ≡ refusal ((lent_in c p (counter_lent l), 5) ∷ (leb tol 16, 7) ∷ []) → 1 ≤ r → (r, l) ≡ cells_out xs c size p tol l
  checked_out r e o = back l r (λ z. omega arith) ∙ laid_as l (lent_refused xs c size p (counter_lent l) tol r e o)

  -- 13, or the block made
  pub passed_out : (a : lent_in c p (counter_lent l) ≡ true) (b : leb tol 16 ≡ true) (r : ℕ) (k : ColorIndex) (y ks es ss : List ℕ)
      → ◌≡◌ {A = ℕ × (ColorIndex × List ℕ)} (r, (k, y)) (block_laid (answer_of (refusal ((few_colors xs (size * size), 13) ∷ [])) xs c size p (counter_lent l) tol) l.block)
      → ks ≡ sets l.keys 0 k.keys → es ≡ sets l.entry 0 k.entry → ss ≡ sets l.stamp 0 (marks_of k) → ◌≡◌ {A = ℕ × Lent} (r, record { keys = ks; entry = es; stamp = ss; block = y }) (cells_out xs c size p tol l)
  passed_out a b r k y ks es ss h hk he hs =
      lent_laid (answer_of (refusal ((few_colors xs (size * size), 13) ∷ [])) xs c size p (counter_lent l) tol) l r k y ks es ss h hk he hs ∙ taken_out a b
