-- `flatplan::put_runs`. The loop's invariant: what is left makes the whole.
use Rattle.std.proofs.Common.{◌≡◌, ◌*◌, drop}
use Rattle.base.specs.Laid.{Left}
use Rattle.flatplan.specs.Flat.{flat_runs}
use Rattle.flatplan.proofs.put_runs.Given as goal

abbrev pub invariant-loop-run : goal.invariant-loop-run
invariant-loop-run l = (l.to ≡ 4 * l.run-index) × Left l.initial.list 0 (flat_runs l.runs) l.list l.to (flat_runs (drop l.run-index l.runs))
