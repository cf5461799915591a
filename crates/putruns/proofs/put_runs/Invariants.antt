-- `putruns::put_runs`. The invariant: the bins of the runs that are left, laid from here on, make the whole.
use mathlib.Core.Bool.{false}
use Prim.Native.Nat.{◌+◌, ◌*◌, ◌≤◌}
use lib.ListN.{drop}
use Rattle.base.specs.Laid.{Left}
use Rattle.flatplan.specs.Flat.{first_of}
use Rattle.syntax.specs.Runs.{runs_bins}
use Rattle.putruns.specs.Going.{Going}
use Rattle.putruns.proofs.put_runs.Given as goal

abbrev pub invariant-loop-i : goal.invariant-loop-i
invariant-loop-i l = (l.to ≤ l.at + 65 * l.i) × Going l.size l.n l.fin l.place.scan l.place.prev l.place.left (drop l.i (first_of l.runs l.count)) × Left l.initial.list l.at (runs_bins l.size l.n l.fin 0 false (first_of l.runs l.count)) l.list l.to (runs_bins l.size l.n l.fin l.place.scan l.place.prev (drop l.i (first_of l.runs l.count)))
