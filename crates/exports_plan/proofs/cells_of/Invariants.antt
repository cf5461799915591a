-- `exports_plan::cells_of`. The loop's invariant: the places passed are laid.
use Rattle.std.proofs.Common.{◌≡◌, ℕ, ◌+◌}
use Rattle.base.specs.Cells.{laid}
use Rattle.flat.specs.Flat.{number, byte}
use Rattle.exports_plan.proofs.cells_of.Given as goal

abbrev pub invariant-loop-i : goal.invariant-loop-i
invariant-loop-i l = l.cell-items ≡ laid (λ (j : ℕ). byte (number l.block (336 + j))) l.initial.cell-items 0 l.i
