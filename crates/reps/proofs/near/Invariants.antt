-- `reps::near`: while the flag is off, none passed is within tolerance. Assumes nothing.
use Rattle.std.proofs.Common.{◌≡◌, ℕ, ◌<◌, false, get_or}
use Rattle.reps.specs.Reps.{within}
use Rattle.reps.proofs.near.Given as goal

abbrev pub invariant-loop-x : goal.invariant-loop-x
invariant-loop-x l = l.any ≡ false → (j : ℕ) → j < l.x-index → within l.tol l.e (get_or l.list j 0) ≡ false
