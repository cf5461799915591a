use mathlib.Core.Bool.{beq}
use mathlib.Core.List.{[], ◌∷◌}
use mathlib.Core.Path.{◌∙◌}
use lib.Dec.{eqb}
use Rattle.base.specs.Tests.{ands-every}
use Rattle.model.specs.Whole.{matches}
use Rattle.whole.specs.Parts.{beq_same}
use Rattle.whole.proofs.matches.Goals as goal

pub returns : goal.returns
unfolding matches
returns c = let a = c.args in
    ands-every (eqb a.cu.chroma_idc a.c.chroma_idc)
    (eqb a.cu.bd_luma a.c.bd_luma ∷ eqb a.cu.bd_chroma a.c.bd_chroma ∷ beq a.cu.lossless a.c.lossless ∷ [])
    ∙ rw (beq_same a.cu.lossless a.c.lossless)
