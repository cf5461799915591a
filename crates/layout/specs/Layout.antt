-- The file that `list` reads, as document 01 lays it out. What would lie past the end reads as 0.
use Rattle.std.specs.Prelude.{Bool, List, [], ◌∷◌, ℕ, zero, suc, ◌+◌, ◌*◌, leb, eqb, length, get_or, drop, replicate}
use Rattle.base.specs.Cells.{laid}
use Rattle.base.specs.Tests.{every}
use Rattle.model.specs.Domain.{no_color}
use Rattle.model.specs.declared.Color.{Color}
use Rattle.model.specs.declared.PalettePredictor.{PalettePredictor}

-- little-endian numbers of 16 and of 32 bits
unfoldable pub half_at : List ℕ → ℕ → ℕ
half_at l p = get_or l p 0 + 256 * get_or l (p + 1) 0

unfoldable pub word_at : List ℕ → ℕ → ℕ
word_at l p = half_at l p + 65536 * half_at l (p + 2)

-- ---- the nine numbers

abbrev pub size_of : List ℕ → ℕ
size_of l = word_at l 0

abbrev pub format_of : List ℕ → ℕ
format_of l = word_at l 4

abbrev pub luma_of : List ℕ → ℕ
luma_of l = word_at l 8

abbrev pub chroma_of : List ℕ → ℕ
chroma_of l = word_at l 12

abbrev pub lossless_of : List ℕ → ℕ
lossless_of l = word_at l 16

abbrev pub count_of : List ℕ → ℕ
count_of l = word_at l 20

abbrev pub entries_from : List ℕ → ℕ
entries_from l = word_at l 24

abbrev pub bin_count_of : List ℕ → ℕ
bin_count_of l = word_at l 28

abbrev pub bins_from : List ℕ → ℕ
bins_from l = word_at l 32

-- ---- 16: at most 65,536 bytes, lossless 0 or 1, the offsets that the counts give, and bins to the end of file

unfoldable pub laid_out : List ℕ → Bool
laid_out l =
    every
    (leb (length l) 65536 ∷ leb (lossless_of l) 1 ∷ eqb (entries_from l) 36 ∷ eqb (bins_from l) (36 + 6 * count_of l)
    ∷ eqb (length l) (bins_from l + bin_count_of l) ∷ [])

-- ---- entries as three numbers of 16 bits, then bins

unfoldable pub entry_at : List ℕ → ℕ → Color
entry_at l p = record { y = half_at l p; cb = half_at l (p + 2); cr = half_at l (p + 4) }

unfoldable pub entries_at : List ℕ → ℕ → ℕ → List Color
entries_at l p zero = []
entries_at l p (suc k) = entry_at l p ∷ entries_at l (p + 6) k

unfoldable pub predictor_of : List ℕ → PalettePredictor
predictor_of l = record { entries = entries_at l 36 (count_of l); size = count_of l }

abbrev pub bins_of : List ℕ → List ℕ
bins_of l = drop (bins_from l) l

-- the predictor as the code has it: an array of 128 entries, of which those below the count are meant
unfoldable pub array_of : List ℕ → PalettePredictor
array_of l = record { entries = laid (λ (i : ℕ). entry_at l (36 + 6 * i)) (replicate 128 no_color) 0 128; size = count_of l }
