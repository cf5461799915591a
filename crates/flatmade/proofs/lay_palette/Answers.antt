-- `flatmade::lay_palette`. The loop's invariant: what is left makes the whole.
use mathlib.Core.Path.{sym, ◌∙◌}
use native.Mathlib.Omega.{arith}
use Rattle.flatmade.specs.FrontLaws.{palette_next, palette_end}
use Rattle.flatmade.proofs.lay_palette.Goals as goal

pub loop-i-preserved : goal.loop-i-preserved
loop-i-preserved c = let l = c.loop-i in palette_next l.out c.args.palette l.i (omega arith) ∙ l.invariant

pub returns : goal.returns
returns c = let l = c.loop-i in sym (palette_end l.out c.args.palette l.i (omega arith)) ∙ l.invariant
