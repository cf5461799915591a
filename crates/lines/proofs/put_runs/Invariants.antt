-- `lines::put_runs`. The invariant: the lines of the runs that are left make the whole.
use Rattle.std.proofs.Common.{◌+◌, ◌*◌, ◌≤◌, drop}
use Rattle.base.specs.Laid.{Left}
use Rattle.lines.specs.Lines.{run_lines}
use Rattle.lines.proofs.put_runs.Given as goal

abbrev pub invariant-loop-run : goal.invariant-loop-run
invariant-loop-run l = (l.to ≤ l.at + 69 * l.run-index) × Left l.initial.list l.at (run_lines l.runs) l.list l.to (run_lines (drop l.run-index l.runs))
