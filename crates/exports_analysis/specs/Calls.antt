-- What the exported calls of analysis answer and leave in the memory lent to them: the entry point's answer over the records that the lists of numbers are.
use Rattle.std.specs.Prelude.{List, ℕ, ℤ}
use Rattle.analysis.specs.Analyze.{analyze_of, analyze_with_of}
use Rattle.flat.specs.Flat.{predictor_of, config_of, source_of}
use Rattle.flatchoose.specs.Choose.{Lent, counter_lent, analyzed_laid}

unfoldable pub analyze_out : List ℕ → List ℕ → List ℕ → List ℤ → List ℕ → List ℕ → Lent → ℕ × Lent
analyze_out luma cb cr config source predictor l = analyzed_laid (analyze_of luma cb cr (config_of config) (source_of source) (predictor_of predictor) (counter_lent l)) l

unfoldable pub analyze_with_out : List ℕ → List ℕ → List ℕ → List ℤ → List ℕ → List ℕ → ℕ → Lent → ℕ × Lent
analyze_with_out luma cb cr config source predictor tol l = analyzed_laid (analyze_with_of luma cb cr (config_of config) (source_of source) (predictor_of predictor) (counter_lent l) tol) l
