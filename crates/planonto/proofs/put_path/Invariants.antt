-- `planonto::put_path`. The loop's invariant: the runs between the points that are left, laid from where it is, make the whole.
use mathlib.Core.Path.{◌≡◌}
use mathlib.Core.Bool.{false}
use Prim.Native.Nat.{◌-◌, ◌*◌, ◌≤◌}
use lib.ListN.{length}
use lib.Seq.{sets}
use Rattle.flatplan.specs.Flat.{flat_runs}
use Rattle.walk.specs.Points.{points_in, Rising, runs_in}
use Rattle.planonto.proofs.put_path.Given as goal

abbrev pub invariant-loop-i : goal.invariant-loop-i
invariant-loop-i l = (l.p ≤ 1024) × Rising l.p (points_in l.ends l.kinds l.i (l.count - l.i)) × (length l.list ≡ length l.initial.list) × (sets l.list (4 * l.i) (flat_runs (runs_in l.xs l.above l.p l.k (points_in l.ends l.kinds l.i (l.count - l.i)))) ≡ sets l.initial.list 0 (flat_runs (runs_in l.xs l.above 0 false (points_in l.ends l.kinds 0 l.count))))
