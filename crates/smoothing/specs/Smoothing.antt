-- Document 01's smoothing of a block, with its refusals.
use Rattle.std.specs.Prelude.{Bool, false, not, List, [], ◌∷◌, ◌++◌, ℕ, eqb, Float}
use Rattle.std.specs.Float.{binary32}
use Rattle.std.specs.Float.Ieee.{mul}
use Rattle.base.specs.Pick.{pick}
use Rattle.base.specs.Tests.{every, refusal}
use Rattle.model.specs.declared.PaletteConfig.{PaletteConfig}
use Rattle.model.specs.declared.PaletteCu.{PaletteCu}
use Rattle.model.specs.declared.SourceBlock.{SourceBlock}
use Rattle.samples.specs.Samples.{color_at}
use Rattle.source.specs.Source.{source_tests}
use Rattle.sse.specs.Sse.{block_in}
use Rattle.smoothblock.specs.Block.{Smoothed, answer}

-- 15: neither transposed nor lossless
unfoldable pub kind_in : Bool → Bool → Bool
kind_in transpose lossless = every (not transpose ∷ not lossless ∷ [])

-- 1 2 3 4 7 15
unfoldable pub smooth_refusal : List ℕ → List ℕ → List ℕ → PaletteConfig → SourceBlock → PaletteCu → ℕ
smooth_refusal luma cb cr c g cu = refusal (source_tests luma cb cr c g ++ ((block_in c g cu, 7) ∷ (kind_in cu.transpose cu.lossless, 15) ∷ []))

-- whether a run was moved and the block that smoothing makes, or a refusal and the block as it came; the budget of a run is lambda times its bits
unfoldable pub smooth_of : List ℕ → List ℕ → List ℕ → PaletteConfig → SourceBlock → Float → Float → PaletteCu → Smoothed
smooth_of luma cb cr c g lambda bits cu =
    let k : ℕ = smooth_refusal luma cb cr c g cu in
    pick (eqb k 0) (answer c (mul binary32 lambda bits) cu (color_at luma cb cr c.chroma_idc g)) (record { refusal = k; changed = false; cu = cu })
