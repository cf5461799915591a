-- The map that the program `roundtrip` codes: kinds of cover, their samples, and the blocks.
use Rattle.std.specs.Prelude.{Bool, List, [], ◌∷◌, ℕ, ◌+◌, ◌*◌, ◌/◌, ◌%◌, eqb, ltb, ℤ, pos, get_or, replicate}
use Rattle.base.specs.Cells.{laid}
use Rattle.base.specs.Pick.{pick}
use Rattle.landcover.specs.declared.Square.{Square}

-- the kind of cover at a column and a row: a track one cell wide (11), a shore where neighbours differ (12 on), flat patches
unfoldable pub cover_of : ℕ → ℕ → ℕ
cover_of x y =
    pick
    (eqb x ((y + y / 2 + 4) % 48))
    11
    (pick (ltb 63 (x + y)) (12 + (7 * x + 11 * y) % 110) ((x / 7 + 3 * (y / 5)) % 11))

-- that at a place of a plane, 48 columns wide, or 24 where it has every second column and row
unfoldable pub cover_at : Bool → ℕ → ℕ
cover_at half i = pick half (cover_of (2 * (i % 24)) (2 * (i / 24))) (cover_of (i % 48) (i / 48))

-- the sample of a kind of cover, with 8 or 10 bits
unfoldable pub sample_of : ℕ → ℕ → Bool → ℕ
sample_of kind by deep = pick deep (4 * (kind * by % 251) + 3) (kind * by % 251)

-- a plane of the map, 1920 places
unfoldable pub plane_of : Bool → ℕ → Bool → List ℕ
plane_of half by deep = laid (λ (i : ℕ). sample_of (cover_at half i) by deep) (replicate 1920 0) 0 1920

unfoldable pub depth_of : Bool → ℕ
depth_of deep = pick deep 10 8

-- a chroma side, of a luma side
unfoldable pub side_of : ℕ → ℕ → ℕ
side_of format luma = pick (eqb format 0) 0 (pick (eqb format 1) (luma / 2) luma)

-- component count, format, depths, three QPs, lossless flag
unfoldable pub settings : ℕ → Bool → Bool → List ℤ
settings format deep lossless =
    pos (pick (eqb format 0) 1 3)
    ∷ pos format
    ∷ pos (depth_of deep)
    ∷ pos (depth_of deep)
    ∷ pos 22
    ∷ pos 22
    ∷ pos 22
    ∷ pos (pick lossless 1 0)
    ∷ []

-- columns, rows and sizes of the twelve blocks
unfoldable pub columns : List ℕ
columns = 0 ∷ 16 ∷ 16 ∷ 32 ∷ 28 ∷ 4 ∷ 24 ∷ 38 ∷ 0 ∷ 40 ∷ 6 ∷ 20 ∷ []

unfoldable pub rows : List ℕ
rows = 0 ∷ 16 ∷ 0 ∷ 24 ∷ 20 ∷ 6 ∷ 8 ∷ 30 ∷ 32 ∷ 0 ∷ 0 ∷ 10 ∷ []

unfoldable pub sizes : List ℕ
sizes = 32 ∷ 32 ∷ 16 ∷ 16 ∷ 16 ∷ 16 ∷ 8 ∷ 8 ∷ 8 ∷ 8 ∷ 2 ∷ 2 ∷ []

-- a square as three numbers
abbrev pub listed : Square → List ℕ
listed s = s.column ∷ s.row ∷ s.size ∷ []

-- column, row and size of block k; zeros past the last
unfoldable pub spot_of : ℕ → List ℕ
spot_of k = get_or columns k 0 ∷ get_or rows k 0 ∷ get_or sizes k 0 ∷ []

-- planes and block of a geometry
unfoldable pub geometry_of : ℕ → List ℕ → List ℕ
geometry_of format at = 48 ∷ 40 ∷ side_of format 48 ∷ side_of format 40 ∷ get_or at 0 0 ∷ get_or at 1 0 ∷ get_or at 2 0 ∷ []
