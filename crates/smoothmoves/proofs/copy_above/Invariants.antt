-- `smoothmoves::copy_above`. The loop's invariant: the places passed are copied.
use Rattle.std.proofs.Common.{◌≡◌, ◌-◌}
use Rattle.smooth.specs.Smooth.{copied_from}
use Rattle.smoothmoves.proofs.copy_above.Given as goal

abbrev pub invariant-loop-i : goal.invariant-loop-i
invariant-loop-i l = l.indices ≡ copied_from l.size l.initial.indices l.start (l.i - l.start)
