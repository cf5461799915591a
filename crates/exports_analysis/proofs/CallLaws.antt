-- The answers from what the code found, and how they are laid; a refusal by 1 to 4 leaves all that was lent as it was.
use Rattle.std.specs.Prelude.{◌≡◌, true, List, ℕ, ℤ, replicate}
use Rattle.std.proofs.Math.Path.{ap}
use Rattle.std.proofs.Common.{sym, ◌∙◌, arith}
use Rattle.base.specs.Pick.{either}
use Rattle.base.specs.Tests.{refusal}
use Rattle.model.specs.Domain.{config_in}
use Rattle.model.specs.declared.PaletteConfig.{PaletteConfig}
use Rattle.model.specs.declared.SourceBlock.{SourceBlock}
use Rattle.source.specs.Laws.{some}
use Rattle.source.specs.Source.{source_tests, cells_in}
use Rattle.analysis.specs.Analyze.{tolerance_at, analyze_with_of}
use Rattle.analysis.specs.Laws.{palette_with, with_source, with_cells_lem}
use Rattle.flat.specs.Flat.{predictor_of, config_of, source_of}
use Rattle.flatchoose.specs.Choose.{Lent, counter_lent, analyzed_laid}
use Rattle.flatchoose.specs.ChooseLaws.{back, laid_as}
use Rattle.flatanalyse.specs.Cells.{cells_out}
use Rattle.exports_analysis.specs.Calls.{analyze_out, analyze_with_out}

module _ (luma cb cr : List ℕ) (config : List ℤ) (source predictor : List ℕ) (l : Lent) (c : PaletteConfig) (g : SourceBlock) (hc : c ≡ config_of config) (hg : g ≡ source_of source) where
  -- 1 to 4
  pub source-out : (tol r : ℕ) → r ≡ refusal (source_tests luma cb cr c g) → (r ≡ 0 → ⊥) → (r, l) ≡ analyze_with_out luma cb cr config source predictor tol l
  unfolding analyze_with_out
  source-out tol r e h =
      back l r h ∙ laid_as l (with_source luma cb cr c g (predictor_of predictor) (counter_lent l) tol r e (some r h)) ∙ (λ i. analyzed_laid (analyze_with_of luma cb cr (hc i) (hg i) (predictor_of predictor) (counter_lent l) tol) l)

  -- the rest, from the colours fetched
  pub cells_out_lem : (ys : List ℕ) → refusal (source_tests luma cb cr c g) ≡ 0 → ys ≡ cells_in luma cb cr c g (replicate 1024 0) → (tol : ℕ) → cells_out ys c g.size (predictor_of predictor) tol l ≡ analyze_with_out luma cb cr config source predictor tol l
  unfolding analyze_with_out
  cells_out_lem ys e is tol =
      laid_as l (with_cells_lem luma cb cr c g (predictor_of predictor) (counter_lent l) ys e is tol) ∙ (λ i. analyzed_laid (analyze_with_of luma cb cr (hc i) (hg i) (predictor_of predictor) (counter_lent l) tol) l)

  -- the luma QP's tolerance is never refused: as if it were lent
  lent_at : analyze_with_out luma cb cr config source predictor (tolerance_at c) l ≡ analyze_out luma cb cr config source predictor l
  unfolding analyze_out analyze_with_out
  lent_at =
      let q : tolerance_at c ≡ tolerance_at (config_of config) = ap tolerance_at hc in
      rw q (laid_as l (sym (palette_with luma cb cr (config_of config) (source_of source) (predictor_of predictor) (counter_lent l))))

  -- out of the domain no tolerance is looked at
  pub palette_out : (tol : ℕ) → (config_in c ≡ true → tol ≡ tolerance_at c) → analyze_with_out luma cb cr config source predictor tol l ≡ analyze_out luma cb cr config source predictor l
  palette_out tol h =
      either (config_in c)
      (λ t. rw (h t) lent_at)
      (λ f.
      let e : 1 ≡ refusal (source_tests luma cb cr c g) = rw f in
      sym (source-out tol 1 e (λ z. omega arith)) ∙ source-out (tolerance_at c) 1 e (λ z. omega arith) ∙ lent_at)
