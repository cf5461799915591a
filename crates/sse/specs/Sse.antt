-- The error figure of a block, with its refusals.
use Rattle.std.specs.Prelude.{Bool, List, [], ◌∷◌, ◌++◌, ℕ, eqb, Result, Ok, Err}
use Rattle.base.specs.Pick.{pick}
use Rattle.base.specs.Tests.{every, refusal}
use Rattle.model.specs.Whole.{holds, matches, matches_size}
use Rattle.model.specs.declared.PaletteConfig.{PaletteConfig}
use Rattle.model.specs.declared.PaletteCu.{PaletteCu}
use Rattle.model.specs.declared.SourceBlock.{SourceBlock}
use Rattle.samples.specs.Samples.{color_at}
use Rattle.source.specs.Source.{source_tests}
use Rattle.levels.specs.Levels.{scale_of}
use Rattle.figure.specs.Figure.{block_figure}
use Rattle.refusal.specs.Refusal.{number_of}
use Rattle.refusal.specs.declared.Refusal.{Refusal}

-- 7: the block holds together and is the call's
unfoldable pub block_in : PaletteConfig → SourceBlock → PaletteCu → Bool
block_in c g cu = every (holds 64 cu ∷ matches c cu ∷ matches_size g.size cu ∷ [])

-- refusals 1 2 3 4 7
unfoldable pub sse_refusal : List ℕ → List ℕ → List ℕ → PaletteConfig → SourceBlock → PaletteCu → ℕ
sse_refusal luma cb cr c g cu = refusal (source_tests luma cb cr c g ++ ((block_in c g cu, 7) ∷ []))

-- what the call answers: a refusal's number alone, or 0 and the error figure
pub record Figure : Type 0 where
  pub refusal : ℕ
  pub sse : ℕ

abbrev pub as_figure : Result ℕ Refusal → Figure
as_figure (Ok e) = record { refusal = 0; sse = e }
as_figure (Err r) = record { refusal = number_of r; sse = 0 }

-- a refusal's number alone, or the error figure
unfoldable pub sse_of : List ℕ → List ℕ → List ℕ → PaletteConfig → SourceBlock → PaletteCu → Figure
sse_of luma cb cr c g cu = record {
  refusal = sse_refusal luma cb cr c g cu;
  sse = pick (eqb (sse_refusal luma cb cr c g cu) 0) (block_figure (scale_of c) cu (color_at luma cb cr c.chroma_idc g)) 0;
}
