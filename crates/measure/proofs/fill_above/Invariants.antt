-- `measure::fill_above`. The loop's invariant: the cells of the rows so far are laid.
use mathlib.Core.Path.{◌≡◌}
use Prim.Native.Nat.{◌*◌}
use Rattle.base.specs.Cells.{laid}
use Rattle.h265.specs.Scan.{above_at}
use Rattle.measure.proofs.fill_above.Given as goal

abbrev pub invariant-loop-row : goal.invariant-loop-row
invariant-loop-row l = l.above ≡ laid (above_at l.size l.xs) l.initial.above 0 (l.row * l.size)
