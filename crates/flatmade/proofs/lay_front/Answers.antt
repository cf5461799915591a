-- `flatmade::lay_front`. The loop's invariant: what is left makes the whole.
use mathlib.Core.Path.{refl, ◌∙◌}
use Prim.Native.Nat.{min}
use native.Mathlib.Omega.{arith}
use lib.ListN.{length, length-set}
use Rattle.flatmade.specs.FrontLaws.{front-next, front-end}
use Rattle.flatmade.proofs.lay_front.Goals as goal

pub loop-i-init : goal.loop-i-init
loop-i-init c = (refl, refl)

pub loop-i-preserved : goal.loop-i-preserved
loop-i-preserved c = let l = c.loop-i in (length-set l.list l.i _ ∙ l.invariant.0, front-next l.list c.args.xs.now l.i (omega (arith, c.min-i-end.ensures, c.requires)) ∙ l.invariant.1)

pub returns : goal.returns
returns c = let l = c.loop-i in front-end l.list _ c.args.xs.now l.i (min 336 (length l.list)) c.requires refl (omega (arith, c.min-i-end.ensures, l.invariant.0)) l.invariant.1
