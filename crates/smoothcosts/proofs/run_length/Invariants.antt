-- `smoothcosts::run_length`. The loop's invariant: the places passed have the run's index, and the rest of the run makes the whole.
use Rattle.std.proofs.Common.{◌≡◌, ◌+◌, ◌-◌}
use Rattle.smooth.specs.Smooth.{stretch, run_length}
use Rattle.smoothcosts.proofs.run_length.Given as goal

abbrev pub invariant-loop-end : goal.invariant-loop-end
invariant-loop-end l = l.end + stretch l.indices l.v (l.n - l.end) l.end ≡ l.start + run_length l.n l.indices l.start
