-- The first cells of a block, painted: none of them escapes.
use Rattle.std.proofs.Common.{◌≡◌, ℕ, ◌+◌, ◌≤◌, ◌<◌, true, not, eqb, List, length, take, get_or, sym, ap, ◌∙◌, arith, length-take-le, get_or-take}
use Rattle.base.specs.Cells.{laid, laid_same}
use Rattle.base.specs.Tests.{up_to, up_to-same}
use Rattle.model.specs.declared.PaletteConfig.{PaletteConfig}
use Rattle.model.specs.declared.PaletteCu.{PaletteCu}
use Rattle.entries.specs.Entries.{palette_of}
use Rattle.recon.specs.Recon.{cell_color}
use Rattle.recon.specs.Laws.{painted}

pub painted_first : (c : PaletteConfig) (cu : PaletteCu) (palette l : List ℕ) (m : ℕ) → palette ≡ palette_of cu → m ≤ length cu.indices
    → up_to (length (take m cu.indices)) (λ j. not (eqb (get_or (take m cu.indices) j 0) cu.palette_size)) ≡ true
    → laid (λ j. get_or palette (get_or (take m cu.indices) j 0) 0) l 0 (length (take m cu.indices)) ≡ laid (cell_color c cu) l 0 m
painted_first c cu palette l m p o e =
    let n : length (take m cu.indices) ≡ m = length-take-le m cu.indices o in
    let index : (j : ℕ) → j < m → get_or (take m cu.indices) j 0 ≡ get_or cu.indices j 0 = λ j h. get_or-take m cu.indices j 0 h in
    let t : up_to m (λ j. not (eqb (get_or cu.indices j 0) cu.palette_size)) ≡ true =
    sym (up_to-same m (λ j. not (eqb (get_or (take m cu.indices) j 0) cu.palette_size)) (λ j. not (eqb (get_or cu.indices j 0) cu.palette_size)) (λ j h. ap (λ (k : ℕ). not (eqb k cu.palette_size)) (index j h))) ∙ rw n at e
    in
    ap (laid (λ j. get_or palette (get_or (take m cu.indices) j 0) 0) l 0) n
    ∙ laid_same (λ j. get_or palette (get_or (take m cu.indices) j 0) 0) (λ j. get_or palette (get_or cu.indices j 0) 0) l 0 m (λ j h. ap (λ (k : ℕ). get_or palette k 0) (index (0 + j) (omega arith)))
    ∙ painted c cu palette l m p t
