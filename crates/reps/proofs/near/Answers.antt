-- `reps::near`: while the flag is off, none passed is within tolerance. Assumes nothing.
use Rattle.reps.specs.Near.{near_next}
use Rattle.reps.proofs.near.Goals as goal

pub loop-x-preserved : goal.loop-x-preserved
loop-x-preserved c = let l = c.loop-x in near_next c.args.tol c.args.e c.args.list.now l.x-index l.any c.requires l.invariant
