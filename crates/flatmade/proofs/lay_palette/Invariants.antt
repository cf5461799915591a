-- `flatmade::lay_palette`. The loop's invariant: what is left makes the whole.
use mathlib.Core.List.{map}
use mathlib.Core.Path.{◌≡◌}
use Prim.Native.Nat.{◌+◌, ◌*◌}
use lib.ListN.{drop}
use lib.Seq.{sets}
use Rattle.flat.specs.Flat.{colors_of}
use Rattle.blocks.specs.Blocks.{color_of}
use Rattle.flatmade.proofs.lay_palette.Given as goal

abbrev pub invariant-loop-i : goal.invariant-loop-i
invariant-loop-i l = (sets l.out (16 + 3 * l.i) (colors_of (map color_of (drop l.i l.palette))) ≡ sets l.initial.out 16 (colors_of (map color_of l.palette)))
