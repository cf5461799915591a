-- `smoothruns::smooth`. The loop's invariant: what is left makes the whole.
use mathlib.Core.Path.{◌≡◌}
use Prim.Native.Nat.{◌*◌, ◌-◌, ◌≤◌}
use Rattle.smooth.specs.Seen.{seen}
use Rattle.smooth.specs.Smooth.{map, smoothed_from, smoothed}
use Rattle.smoothruns.proofs.smooth.Given as goal

abbrev pub invariant-loop-start : goal.invariant-loop-start
invariant-loop-start l = (l.start ≤ l.s.size * l.s.size) × (smoothed_from (seen l.s) (l.s.size * l.s.size - l.start) l.start (map l.indices l.changed) ≡ smoothed (seen l.s) l.initial.indices)

abbrev pub decreases-loop-start : goal.decreases-loop-start
decreases-loop-start l = l.s.size * l.s.size - l.start
