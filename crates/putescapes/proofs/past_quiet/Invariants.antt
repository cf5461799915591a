-- `putescapes::past_quiet`. The loop's invariant: no cell passed escapes.
use Prim.Native.Nat.{◌-◌, ◌≤◌}
use Rattle.putescapes.specs.Cells.{Quiet}
use Rattle.putescapes.proofs.past_quiet.Given as goal

abbrev pub invariant-loop-i : goal.invariant-loop-i
invariant-loop-i l = (l.from ≤ l.i) × (l.i ≤ l.n) × Quiet l.block l.from l.i

abbrev pub decreases-loop-i : goal.decreases-loop-i
decreases-loop-i l = l.n - l.i
