-- `flatcounter::lay_keys`. The loop's invariant: what is left makes the whole.
use Rattle.std.proofs.Common.{refl, ◌∙◌, arith, length-set}
use Rattle.flatcounter.specs.CounterLaws.{laying_next, keys_laid}
use Rattle.flatcounter.proofs.lay_keys.Goals as goal

pub loop-i-init : goal.loop-i-init
loop-i-init c = (refl, refl)

pub loop-i-preserved : goal.loop-i-preserved
loop-i-preserved c = let l = c.loop-i in (length-set l.list l.i _ ∙ l.invariant.0, laying_next l.list _ c.args.xs.now l.i l.i (omega (arith, c.min-i-end.ensures, c.requires)) l.invariant.1)

pub returns : goal.returns
returns c = let l = c.loop-i in keys_laid l.list _ c.args.xs.now l.i l.i c.requires (omega (arith, c.min-i-end.ensures, l.invariant.0)) (omega arith) l.invariant.1
