-- `walk::runs_of`. The loop's invariant: the runs between the points that are left, laid from i on, make the whole.
use mathlib.Core.Path.{◌≡◌}
use mathlib.Core.Bool.{false}
use Prim.Native.Nat.{◌-◌, ◌≤◌}
use lib.ListN.{replicate}
use lib.Seq.{sets}
use Rattle.walk.specs.Points.{no_run, points_in, Rising, runs_in}
use Rattle.walk.proofs.runs_of.Given as goal

abbrev pub invariant-loop-i : goal.invariant-loop-i
invariant-loop-i l = (l.p ≤ 1024) × Rising l.p (points_in l.ends l.kinds l.i (l.count - l.i)) × (sets l.runs l.i (runs_in l.xs l.above l.p l.k (points_in l.ends l.kinds l.i (l.count - l.i))) ≡ sets (replicate 1024 no_run) 0 (runs_in l.xs l.above 0 false (points_in l.ends l.kinds 0 l.count)))
