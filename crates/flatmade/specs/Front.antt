-- A block's numbers before its indices.
use Rattle.std.specs.Prelude.{List, [], ◌∷◌, ◌++◌, map, ℕ}
use Rattle.h265.specs.Strings.{bit}
use Rattle.model.specs.declared.PaletteConfig.{PaletteConfig}
use Rattle.model.specs.declared.PaletteCu.{PaletteCu}
use Rattle.flat.specs.Flat.{short, head_of, colors_of}

abbrev pub front_of : PaletteCu → List ℕ
front_of cu = head_of cu ++ (colors_of cu.palette ++ map bit cu.reused)

-- before the palette; what analysis does not set is 0
unfoldable pub head_with : PaletteConfig → ℕ → ℕ → ℕ → ℕ → ℕ → List ℕ
head_with c size predictors tol entries signaled =
    short size
    ∷ c.chroma_idc
    ∷ c.bd_luma
    ∷ c.bd_chroma
    ∷ bit c.lossless
    ∷ short entries
    ∷ short predictors
    ∷ short signaled
    ∷ 0
    ∷ 0
    ∷ short tol
    ∷ 0
    ∷ 0
    ∷ 0
    ∷ 0
    ∷ 0
    ∷ []
