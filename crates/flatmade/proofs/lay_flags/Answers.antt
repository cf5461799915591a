-- `flatmade::lay_flags`. The loop's invariant: what is left makes the whole.
use mathlib.Core.Path.{sym, ◌∙◌}
use native.Mathlib.Omega.{arith}
use Rattle.flatmade.specs.FrontLaws.{flag_next, flag_end}
use Rattle.flatmade.proofs.lay_flags.Goals as goal

pub loop-i-preserved : goal.loop-i-preserved
loop-i-preserved c = let l = c.loop-i in flag_next l.out c.args.flags l.i (omega arith) ∙ l.invariant

pub returns : goal.returns
returns c = let l = c.loop-i in sym (flag_end l.out c.args.flags l.i (omega arith)) ∙ l.invariant
