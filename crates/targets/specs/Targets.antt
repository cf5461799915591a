-- Refusals 1 to 3 of a call that is given target planes.
use Rattle.std.specs.Prelude.{Bool, List, [], ◌∷◌, ℕ, ◌*◌, eqb, leb}
use Rattle.base.specs.Tests.{every, any}
use Rattle.model.specs.Domain.{config_in, source_in}
use Rattle.model.specs.declared.PaletteConfig.{PaletteConfig}
use Rattle.model.specs.declared.SourceBlock.{SourceBlock}

-- a plane of n samples: not shorter than stride × height, its stride not below its width
unfoldable pub plane_in : ℕ → ℕ → ℕ → ℕ → Bool
plane_in stride width height n = every (leb width stride ∷ leb (stride * height) n ∷ [])

-- 3: the planes in use; ys and cs are the strides, y, b and r the planes' lengths
unfoldable pub target_in : ℕ → SourceBlock → ℕ → ℕ → ℕ → ℕ → ℕ → Bool
target_in format g ys cs y b r = every (plane_in ys g.yw g.yh y ∷ any (eqb format 0 ∷ every (plane_in cs g.cw g.chh b ∷ plane_in cs g.cw g.chh r ∷ []) ∷ []) ∷ [])

abbrev pub target_tests : PaletteConfig → SourceBlock → ℕ → ℕ → ℕ → ℕ → ℕ → List (Bool × ℕ)
target_tests c g ys cs y b r = (config_in c, 1) ∷ (source_in c.chroma_idc g, 2) ∷ (target_in c.chroma_idc g ys cs y b r, 3) ∷ []
