-- A block's numbers up to its levels.
use Rattle.std.specs.Prelude.{◌≡◌, List, ◌++◌, map, ℕ}
use Rattle.std.proofs.Common.{ap, ◌∙◌, append_assoc}
use Rattle.h265.specs.Strings.{bit}
use Rattle.model.specs.declared.PaletteCu.{PaletteCu}
use Rattle.flat.specs.Flat.{head_of, colors_of, levels_of, flat_block}

unfoldable pub front_of : PaletteCu → List ℕ
front_of cu = head_of cu ++ (colors_of cu.palette ++ (map bit cu.reused ++ cu.indices))

-- its levels after them make the whole
pub flat-front : (cu : PaletteCu) → front_of cu ++ levels_of cu.escapes ≡ flat_block cu
unfolding front_of flat_block
flat-front cu =
    let f = map bit cu.reused in
    let l = levels_of cu.escapes in
    append_assoc (head_of cu) (colors_of cu.palette ++ (f ++ cu.indices)) l
    ∙ ap (λ (x : List ℕ). head_of cu ++ x) (append_assoc (colors_of cu.palette) (f ++ cu.indices) l ∙ ap (λ (x : List ℕ). colors_of cu.palette ++ x) (append_assoc f cu.indices l))
