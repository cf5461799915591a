-- `sweep::sweep`. The loop's invariant: the slots below s are swept.
use Rattle.std.proofs.Common.{◌≡◌, ◌∙◌, ◌*◌, arith}
use Rattle.sweep.specs.Prices.{swept_none, swept-more}
use Rattle.sweep.proofs.sweep.Goals as goal

pub loop-s-init : goal.loop-s-init
loop-s-init c = swept_none _ _ _ _ _ 0 _

pub loop-s-preserved : goal.loop-s-preserved
loop-s-preserved c = c.step.ensures ∙ swept-more _ _ _ _ _ _ _ _ c.loop-s.invariant

pub returns : goal.returns
returns c = let e : c.loop-s.s ≡ c.args.task.now.terms.n * 2 = omega arith in rw e at c.loop-s.invariant
