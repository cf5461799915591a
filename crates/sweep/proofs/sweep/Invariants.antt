-- `sweep::sweep`. The loop's invariant: the slots below s are swept.
use Rattle.std.proofs.Common.{◌≡◌}
use Rattle.paths.specs.Plan.{swept}
use Rattle.relax.specs.Table.{table_of}
use Rattle.starts.specs.Starts.{job_in}
use Rattle.sweep.proofs.sweep.Given as goal

abbrev pub invariant-loop-s : goal.invariant-loop-s
invariant-loop-s l = table_of l.paths ≡ swept (job_in l.task.terms l.task.xs.now l.task.sums.now.short l.task.sums.now.full) l.s (table_of l.initial.paths)
