-- `listing::reading`: the bins stand within the file, and each number is where the layout has it.
use mathlib.Core.Path.{◌∙◌}
use Prim.Native.Nat.{◌-◌}
use native.Mathlib.Omega.{arith}
use lib.ListN.{length, drop, length-drop}
use lib.Seq.{take_all}
use Rattle.layout.specs.LayoutLaws.{bins_within}
use Rattle.listing.specs.Printed.{reading_in}
use Rattle.listing.proofs.reading.Goals as goal

pub slice_bounds-read_palette_cu-count : goal.slice_bounds-read_palette_cu-count
slice_bounds-read_palette_cu-count c = omega (arith, c.word_at-from.ensures.0, bins_within c.args.file.now c.requires)

pub slice_bounds-read_palette_cu-start : goal.slice_bounds-read_palette_cu-start
slice_bounds-read_palette_cu-start c = omega (arith, c.word_at-from.ensures.0, bins_within c.args.file.now c.requires)

pub returns : goal.returns
unfolding reading_in
returns c = let l = c.args.file.now in
    let k = c.word_at-from.result in
    c.read_palette_cu.ensures ∙ rw (take_all (length l - k) (drop k l) (omega (arith, length-drop k l)), c.word_at.ensures.0, c.held_at.ensures, c.held_at-2.ensures, c.held_at-3.ensures, c.word_at-2.ensures.0, c.predictor_of.ensures, c.word_at-from.ensures.0)
