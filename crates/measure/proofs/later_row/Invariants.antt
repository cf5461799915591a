-- `measure::later_row`. The loop's invariant: the row's first j cells are laid.
use mathlib.Core.Path.{◌≡◌}
use Rattle.base.specs.Cells.{laid}
use Rattle.h265.specs.Scan.{above_at}
use Rattle.measure.proofs.later_row.Given as goal

abbrev pub invariant-loop-j : goal.invariant-loop-j
invariant-loop-j l = l.above ≡ laid (above_at l.size l.xs) l.initial.above l.start l.j
