-- `putescapes::next_escape`. The loop's invariant: no cell passed escapes.
use Rattle.putescapes.specs.Cells.{Quiet}
use Rattle.putescapes.proofs.next_escape.Given as goal

abbrev pub invariant-loop-i : goal.invariant-loop-i
invariant-loop-i l = Quiet l.block l.from l.i
