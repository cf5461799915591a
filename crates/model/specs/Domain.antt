-- Document 01's domain, and its tests in the order of their refusal numbers.
use Rattle.std.specs.Prelude.{Bool, true, [], ◌∷◌, ℕ, ◌*◌, ◌-◌, ◌%◌, ◌^◌, eqb, leb, ℤ, pos, negsuc, get_or}
use Rattle.std.specs.Int.Signed.{le_z}
use Rattle.base.specs.Pick.{pick}
use Rattle.base.specs.Tests.{every, any, up_to}
use Rattle.model.specs.declared.Color.{Color}
use Rattle.model.specs.declared.PaletteConfig.{PaletteConfig}
use Rattle.model.specs.declared.PalettePredictor.{PalettePredictor}
use Rattle.model.specs.declared.SourceBlock.{SourceBlock}

-- ---- 1: component count and format disagree, or depth or QP outside the domain

-- format 0 has one component; 1, 2 and 3 have three
unfoldable pub format_in : ℕ → ℕ → Bool
format_in components format = any (every (eqb format 0 ∷ eqb components 1 ∷ []) ∷ every (leb 1 format ∷ leb format 3 ∷ eqb components 3 ∷ []) ∷ [])

unfoldable pub depth_in : ℕ → Bool
depth_in d = any (eqb d 8 ∷ eqb d 10 ∷ eqb d 12 ∷ [])

-- -128 to 75
unfoldable pub qp_in : ℤ → Bool
qp_in q = every (le_z (negsuc 127) q ∷ le_z q (pos 75) ∷ [])

unfoldable pub config_in : PaletteConfig → Bool
config_in c = every (format_in c.num_comps c.chroma_idc ∷ depth_in c.bd_luma ∷ depth_in c.bd_chroma ∷ qp_in c.qp_y ∷ qp_in c.qp_cb ∷ qp_in c.qp_cr ∷ [])

-- ---- 2: size, picture side, origin or evenness outside the domain

-- subsampling is 2×2, 2×1, 1×1 for formats 1, 2, 3
unfoldable pub sub_w : ℕ → ℕ
sub_w format = pick (any (eqb format 1 ∷ eqb format 2 ∷ [])) 2 1

unfoldable pub sub_h : ℕ → ℕ
sub_h format = pick (eqb format 1) 2 1

unfoldable pub size_in : ℕ → Bool
size_in size = every (leb 1 size ∷ leb size 32 ∷ [])

abbrev pub even : ℕ → Bool
even x = eqb (x % 2) 0

-- in formats 1 and 2 a number of luma samples is even
unfoldable pub even_in : ℕ → ℕ → Bool
even_in format x = pick (any (eqb format 1 ∷ eqb format 2 ∷ [])) (even x) true

unfoldable pub side_in : ℕ → Bool
side_in w = every (leb 1 w ∷ leb w 65535 ∷ [])

unfoldable pub source_in : ℕ → SourceBlock → Bool
source_in format g =
    every
    (size_in g.size ∷ side_in g.yw ∷ side_in g.yh ∷ leb g.cw 65535 ∷ leb g.chh 65535 ∷ leb g.x0 65535 ∷ leb g.y0 65535
    ∷ even_in format g.size ∷ even_in format g.x0 ∷ even_in format g.y0 ∷ [])

-- ---- 3: a plane in use is shorter than width × height; y, b and r are the planes' lengths

unfoldable pub planes_in : ℕ → SourceBlock → ℕ → ℕ → ℕ → Bool
planes_in format g y b r = every (leb (g.yw * g.yh) y ∷ any (eqb format 0 ∷ every (leb (g.cw * g.chh) b ∷ leb (g.cw * g.chh) r ∷ []) ∷ []) ∷ [])

-- ---- 4, 5, 7: a colour that fits its depths; in format 0 the second and third components are 0

abbrev pub most : ℕ → ℕ
most depth = 2 ^ depth - 1

abbrev pub most_chroma : ℕ → ℕ → ℕ
most_chroma format depth = pick (eqb format 0) 0 (most depth)

unfoldable pub color_in : ℕ → ℕ → ℕ → Color → Bool
color_in format luma chroma c = every (leb c.y (most luma) ∷ leb c.cb (most_chroma format chroma) ∷ leb c.cr (most_chroma format chroma) ∷ [])

abbrev pub no_color : Color
no_color = record { y = 0; cb = 0; cr = 0 }

-- 5: predictor over 128 entries or an entry over its depth
unfoldable pub predictor_in : ℕ → ℕ → ℕ → PalettePredictor → Bool
predictor_in format luma chroma p = every (leb p.size 128 ∷ up_to p.size (λ i. color_in format luma chroma (get_or p.entries i no_color)) ∷ [])
