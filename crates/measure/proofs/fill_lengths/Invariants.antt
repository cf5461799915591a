-- `measure::fill_lengths`. The loops' invariant: the cells from p on are measured.
use mathlib.Core.Path.{◌≡◌}
use Prim.Native.Nat.{◌+◌, ◌-◌, ◌≤◌}
use Rattle.base.specs.Cells.{laid}
use Rattle.paths.specs.Cells.{index_length, above_length}
use Rattle.paths.specs.Stretch.{next_stretch}
use Rattle.measure.specs.Steps.{Measured}
use Rattle.measure.proofs.fill_lengths.Given as goal

abbrev pub invariant-loop-p : goal.invariant-loop-p
invariant-loop-p l = (l.p ≤ l.n) × Measured l.size l.n l.xs l.p l.after l.run l.copied l.stretch
    × (l.lengths.index ≡ laid (index_length l.n l.xs) l.initial.lengths.index l.p (l.n - l.p))
    × (l.lengths.above ≡ laid (above_length l.size l.n l.xs) l.initial.lengths.above l.p (l.n - l.p))
    × (l.lengths.next ≡ laid (next_stretch l.size l.n l.xs) l.initial.lengths.next (l.p + 1) (l.n + 1 - (l.p + 1)))
