-- What holds of a block that the reader accepts.
use Rattle.std.specs.Prelude.{Bool, not, ◌≢◌, ◌≡◌, ℕ, zero, suc, ◌+◌, ◌*◌, ◌-◌, ◌^◌, ◌≤◌, ◌<◌, ltb, leb, eqb, drop, replicate}
use Rattle.std.proofs.Math.Bool.{true, false}
use mathlib.Core.List.{List, [], ◌∷◌, ◌++◌, map}
use Rattle.std.proofs.Math.Path.{refl, ap, sym, subst}
use Rattle.std.proofs.Common.{◌∙◌, mul-le-mul, arith, length-take-le, get_or-take}
use Rattle.std.proofs.Math.ListN.{length, take, get_or}
use Rattle.std.proofs.lemmas.List.{take-append-le}
use borrow.Author.Tests.{le-leb, leb-true, eqb-true, eqb-false, eq-eqb, ltb-true, ltb-false}
use Rattle.model.specs.Whole.{holds}
use Rattle.model.specs.declared.PalettePredictor.{PalettePredictor}
use Rattle.readblock.specs.Read.{BlockRead}
use Rattle.syntax.specs.Block as B
use Rattle.syntax.specs.Whole as S
use Rattle.write.specs.Write.{bins_of, runs_hold}
use Rattle.eyes.specs.Ready.{Ready, Arrays}

-- ---- the entry point

-- of a reader's answer r on the bins l with the predictor p
pub record Accepted (p : PalettePredictor) (l : List ℕ) (r : BlockRead) : Type 0 where
  -- the block holds together, has one flag for each entry of the predictor, which is valid, and its palette starts with the colours they mark
  pub ready : Ready p r.cu
  pub arrays : Arrays p r.cu
  -- its runs keep the rules
  pub runs : runs_hold r.cu r.runs r.count ≡ true
  -- the bins of block and runs are those that were used
  pub bins : bins_of r.cu (take r.count r.runs) ≡ take r.used l
  pub used : length (bins_of r.cu (take r.count r.runs)) ≡ r.used
