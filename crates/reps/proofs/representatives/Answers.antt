-- `reps::representatives`: after some colours the array holds their representatives. Assumes nothing.
use Rattle.std.proofs.Common.{arith}
use Rattle.reps.specs.Turns.{joining_start, joining_turn, joining_end}
use Rattle.reps.proofs.representatives.Goals as goal

pub loop-c-init : goal.loop-c-init
loop-c-init c = joining_start _ _ _

pub loop-c-preserved : goal.loop-c-preserved
loop-c-preserved c = joining_turn c.loop-c.invariant c.join-count.ensures

pub returns : goal.returns
returns c = joining_end _ c.requires (omega arith) c.loop-c.invariant
