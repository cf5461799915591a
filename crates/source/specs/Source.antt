-- The refusals of a call that is given planes, and the colours it works on.
use Rattle.std.specs.Prelude.{Bool, List, [], ◌∷◌, ◌++◌, ℕ, ◌*◌, eqb, leb, length}
use Rattle.base.specs.Pick.{pick}
use Rattle.base.specs.Cells.{laid}
use Rattle.base.specs.Tests.{every, up_to, refusal}
use Rattle.quant.specs.Quant.{y_of, u_of, v_of}
use Rattle.model.specs.Domain.{config_in, source_in, planes_in, most}
use Rattle.model.specs.declared.PaletteConfig.{PaletteConfig}
use Rattle.model.specs.declared.SourceBlock.{SourceBlock}
use Rattle.samples.specs.Samples.{cell_at}

-- a colour fits, luma at most ym, chroma at most cm
abbrev pub fits : ℕ → ℕ → ℕ → Bool
fits ym cm c = every (leb (y_of c) ym ∷ leb (u_of c) cm ∷ leb (v_of c) cm ∷ [])

-- the first n of the colours f do
unfoldable pub all_fit : ℕ → ℕ → ℕ → (ℕ → ℕ) → Bool
all_fit ym cm n f = up_to n (λ j. fits ym cm (f j))

-- ---- 4: a sample the block reads exceeds its depth

unfoldable pub samples_in : List ℕ → List ℕ → List ℕ → PaletteConfig → SourceBlock → Bool
samples_in luma cb cr c g = all_fit (most c.bd_luma) (most c.bd_chroma) (g.size * g.size) (cell_at luma cb cr c.chroma_idc g)

-- ---- refusals 1 to 4 of every call that is given planes

-- those that look at no sample; y, b and r are the planes' lengths
abbrev pub plane_tests : PaletteConfig → SourceBlock → ℕ → ℕ → ℕ → List (Bool × ℕ)
plane_tests c g y b r = (config_in c, 1) ∷ (source_in c.chroma_idc g, 2) ∷ (planes_in c.chroma_idc g y b r, 3) ∷ []

abbrev pub source_tests : List ℕ → List ℕ → List ℕ → PaletteConfig → SourceBlock → List (Bool × ℕ)
source_tests luma cb cr c g = plane_tests c g (length luma) (length cb) (length cr) ++ ((samples_in luma cb cr c g, 4) ∷ [])

-- the block's colours in l, unless one of 1 to 3 applies
unfoldable pub cells_in : List ℕ → List ℕ → List ℕ → PaletteConfig → SourceBlock → List ℕ → List ℕ
cells_in luma cb cr c g l =
    pick (eqb (refusal (plane_tests c g (length luma) (length cb) (length cr))) 0) (laid (cell_at luma cb cr c.chroma_idc g) l 0 (g.size * g.size)) l
