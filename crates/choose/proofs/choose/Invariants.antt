-- `choose::choose`: after k entries what is chosen and what is left to choose make the whole. Assumes nothing.
use Rattle.std.proofs.Common.{◌≡◌, length}
use Rattle.choose.specs.Turns.{Choosing}
use Rattle.choose.proofs.choose.Given as goal

abbrev pub invariant-loop-k : goal.invariant-loop-k
invariant-loop-k l = (l.painting.size ≡ l.fn.found.count) × Choosing l.tol (length l.entries) l.fn.found.count l.entries l.initial.left l.k l.painting.reused l.left l.painting.palette l.painting.flags
