-- A call of analysis that is not decided by its colours, so refused by 1 to 7, leaves counter and block as they were.
use Rattle.std.specs.Prelude.{◌≡◌, refl, Bool, true, false, List, [], ◌∷◌, ℕ, eqb, ℤ}
use Rattle.std.proofs.Common.{ap, sym, ◌∙◌}
use Rattle.base.specs.Pick.{true_false}
use Rattle.base.specs.Tests.{any}
use Rattle.model.specs.declared.PaletteConfig.{PaletteConfig}
use Rattle.model.specs.declared.PalettePredictor.{PalettePredictor}
use Rattle.analysis.specs.Analyze.{decided, answer_of, palette_refusal, with_refusal, analyze_of, analyze_with_of}
use Rattle.flat.specs.Flat.{predictor_of, config_of, source_of}
use Rattle.flatcounter.specs.Back.{counter_back}
use Rattle.flatchoose.specs.Choose.{Lent, counter_lent, analyzed_laid}
use Rattle.exports_analysis.specs.Calls.{analyze_out, analyze_with_out}

not_zero : (r : ℕ) → decided r ≡ false → eqb r 0 ≡ false
unfolding decided
not_zero r h = at (eqb r 0) (eqb r 13) h
  where
    at : (a b : Bool) → any (a ∷ b ∷ []) ≡ false → a ≡ false
    at true b e = absurd (true_false e)
    at false b e = refl

module _ (r : ℕ) (xs : List ℕ) (c : PaletteConfig) (size : ℕ) (p : PalettePredictor) (tol : ℕ) (l : Lent) (h : decided r ≡ false) where
  undecided : analyzed_laid (answer_of r xs c size p (counter_lent l) tol) l ≡ (r, l)
  unfolding answer_of
  undecided =
      let b = counter_back l.keys l.entry l.stamp in
      rw (h, not_zero r h, b.0, b.1, b.2)

-- a call that is not decided by its colours leaves counter and block as they were
module _ (luma cb cr : List ℕ) (config : List ℤ) (source predictor : List ℕ) (l : Lent) where
  pub untouched : decided (palette_refusal luma cb cr (config_of config) (source_of source) (predictor_of predictor) (counter_lent l)) ≡ false
      → analyze_out luma cb cr config source predictor l ≡ (palette_refusal luma cb cr (config_of config) (source_of source) (predictor_of predictor) (counter_lent l), l)
  unfolding analyze_out analyze_of
  untouched h = undecided _ _ _ _ _ _ l h

  pub with_untouched : (tol : ℕ) → decided (with_refusal luma cb cr (config_of config) (source_of source) (predictor_of predictor) (counter_lent l) tol) ≡ false
      → analyze_with_out luma cb cr config source predictor tol l ≡ (with_refusal luma cb cr (config_of config) (source_of source) (predictor_of predictor) (counter_lent l) tol, l)
  unfolding analyze_with_out analyze_with_of
  with_untouched tol h = undecided _ _ _ _ _ _ l h
