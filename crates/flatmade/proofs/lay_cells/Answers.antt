-- `flatmade::lay_cells`. The loop's invariant: what is left makes the whole.
use mathlib.Core.Path.{refl, sym, ◌∙◌}
use Prim.Native.Nat.{min}
use native.Mathlib.Omega.{arith}
use lib.ListN.{length, length-set}
use Rattle.flatmade.specs.FrontLaws.{cells-next, cells-end}
use Rattle.flatmade.proofs.lay_cells.Goals as goal

pub loop-i-init : goal.loop-i-init
loop-i-init c = (refl, refl)

pub loop-i-preserved : goal.loop-i-preserved
loop-i-preserved c = let l = c.loop-i in (length-set l.list l.i 0 ∙ l.invariant.0, cells-next l.list l.i (omega (arith, c.min-i-end.ensures)) ∙ l.invariant.1)

pub returns : goal.returns
returns c = let l = c.loop-i in sym (cells-end l.list l.i (min 4432 (length l.list)) refl (omega (arith, c.min-i-end.ensures, l.invariant.0))) ∙ l.invariant.1
