-- When a block holds together (refusal 7 where it does not), clause by clause as document 01 lists them. `limit` is the palette's, 64.
use Rattle.std.specs.Prelude.{Bool, true, not, [], ◌∷◌, ℕ, ◌+◌, ◌*◌, ◌-◌, eqb, leb, get_or, take}
use Rattle.base.specs.Pick.{pick}
use Rattle.base.specs.Tests.{every, any, up_to}
use Rattle.h265.specs.Strings.{bit}
use Rattle.h265.specs.Reuse.{trues}
use Rattle.model.specs.declared.Levels.{Levels}
use Rattle.model.specs.declared.PaletteConfig.{PaletteConfig}
use Rattle.model.specs.declared.PaletteCu.{PaletteCu}
use Rattle.model.specs.Domain.{depth_in, size_in, even_in, most, color_in, no_color}

-- M, the greatest index; 0 also for an empty palette
unfoldable pub max_index : PaletteCu → ℕ
max_index cu = cu.palette_size + bit cu.escape_present - 1

-- size, in formats 1 and 2 even
unfoldable pub block_size_in : PaletteCu → Bool
block_size_in cu = every (size_in cu.size ∷ even_in cu.chroma_idc cu.size ∷ [])

-- the flag of two
abbrev pub same : Bool → Bool → Bool
same a b = pick a b (not b)

-- the block's own format, depths and lossless flag are the call's
unfoldable pub matches : PaletteConfig → PaletteCu → Bool
matches c cu = every (eqb cu.chroma_idc c.chroma_idc ∷ eqb cu.bd_luma c.bd_luma ∷ eqb cu.bd_chroma c.bd_chroma ∷ same cu.lossless c.lossless ∷ [])

-- and its size is the call's
unfoldable pub matches_size : ℕ → PaletteCu → Bool
matches_size size cu = eqb cu.size size

-- format and depths in the domain
unfoldable pub format_holds : PaletteCu → Bool
format_holds cu = every (leb cu.chroma_idc 3 ∷ depth_in cu.bd_luma ∷ depth_in cu.bd_chroma ∷ [])

-- true reuse flags plus signalled entries equal the palette size
unfoldable pub counts_hold : PaletteCu → Bool
counts_hold cu = eqb (trues (take cu.pred_size cu.reused) + cu.num_signaled) cu.palette_size

-- entries fit their depth
unfoldable pub entries_hold : PaletteCu → Bool
entries_hold cu = up_to cu.palette_size (λ i. color_in cu.chroma_idc cu.bd_luma cu.bd_chroma (get_or cu.palette i no_color))

-- levels are 0 to 32,767, lossless 0 to the sample maximum, in the components in use
unfoldable pub level_in : Bool → ℕ → ℕ → Bool
level_in lossless depth l = leb l (pick lossless (most depth) 32767)

unfoldable pub levels_in : PaletteCu → Levels → Bool
levels_in cu l =
    every
    (level_in cu.lossless cu.bd_luma l.y
    ∷ any (eqb cu.chroma_idc 0 ∷ every (level_in cu.lossless cu.bd_chroma l.cb ∷ level_in cu.lossless cu.bd_chroma l.cr ∷ []) ∷ []) ∷ [])

abbrev pub no_levels : Levels
no_levels = record { y = 0; cb = 0; cr = 0 }

-- the index at cell i is at most M, and the levels of an escape cell are in range
unfoldable pub cell_holds : PaletteCu → ℕ → Bool
cell_holds cu i =
    every
    (leb (get_or cu.indices i 0) (max_index cu)
    ∷ pick (eqb (get_or cu.indices i 0) cu.palette_size) (levels_in cu (get_or cu.escapes i no_levels)) true ∷ [])

-- an empty palette has escapes and is not transposed
unfoldable pub empty_holds : PaletteCu → Bool
empty_holds cu = pick (eqb cu.palette_size 0) (every (cu.escape_present ∷ not cu.transpose ∷ [])) true

unfoldable pub holds : ℕ → PaletteCu → Bool
holds limit cu =
    every
    (block_size_in cu ∷ format_holds cu ∷ leb cu.palette_size limit ∷ leb cu.pred_size 128 ∷ leb cu.tolerance 16
    ∷ counts_hold cu ∷ entries_hold cu ∷ up_to (cu.size * cu.size) (cell_holds cu) ∷ empty_holds cu ∷ [])

-- the clauses that assignment tests: size, format, depths, palette size, entries and tolerance; and the palette is not empty
unfoldable pub assignable : ℕ → PaletteCu → Bool
assignable limit cu =
    every (block_size_in cu ∷ format_holds cu ∷ leb 1 cu.palette_size ∷ leb cu.palette_size limit ∷ leb cu.tolerance 16 ∷ entries_hold cu ∷ [])
