-- The samples of a block: the colour of each cell.
use Rattle.std.specs.Prelude.{List, [], ◌∷◌, ℕ, ◌+◌, ◌*◌, ◌-◌, ◌/◌, ◌%◌, min, eqb, get_or}
use Rattle.base.specs.Pick.{pick}
use Rattle.base.specs.Tests.{any}
use Rattle.quant.specs.Quant.{packed}
use Rattle.model.specs.Domain.{sub_w, sub_h}
use Rattle.model.specs.declared.SourceBlock.{SourceBlock}

-- a sample of a plane of w × h, column and row held to the plane; 0 where a side is 0
unfoldable pub sample_at : List ℕ → ℕ → ℕ → ℕ → ℕ → ℕ
sample_at plane w h x y = pick (any (eqb w 0 ∷ eqb h 0 ∷ [])) 0 (get_or plane (min y (h - 1) * w + min x (w - 1)) 0)

-- the chroma sample that lies with luma column x, row y; 0 in format 0
unfoldable pub chroma_at : List ℕ → ℕ → SourceBlock → ℕ → ℕ → ℕ
chroma_at plane format g x y = pick (eqb format 0) 0 (sample_at plane g.cw g.chh (x / sub_w format) (y / sub_h format))

-- the colour at column x, row y of the block
unfoldable pub color_at : List ℕ → List ℕ → List ℕ → ℕ → SourceBlock → ℕ → ℕ → ℕ
color_at luma cb cr format g x y =
    packed (sample_at luma g.yw g.yh (g.x0 + x) (g.y0 + y)) (chroma_at cb format g (g.x0 + x) (g.y0 + y)) (chroma_at cr format g (g.x0 + x) (g.y0 + y))

-- cell j, row by row from the left
unfoldable pub cell_at : List ℕ → List ℕ → List ℕ → ℕ → SourceBlock → ℕ → ℕ
cell_at luma cb cr format g j = color_at luma cb cr format g (j % g.size) (j / g.size)
