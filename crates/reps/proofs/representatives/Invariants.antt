-- `reps::representatives`: after some colours the array holds their representatives. Assumes nothing.
use Rattle.reps.specs.Turns.{Joining}
use Rattle.reps.proofs.representatives.Given as goal

abbrev pub invariant-loop-c : goal.invariant-loop-c
invariant-loop-c l = Joining l.tol l.limit l.colours l.c-index l.count l.list
