-- `flat::head_of`. The loop's invariant: the places passed are laid.
use Rattle.std.proofs.Common.{◌≡◌, ℕ}
use Rattle.base.specs.Cells.{laid}
use Rattle.flat.specs.Flat.{number}
use Rattle.flat.proofs.head_of.Given as goal

abbrev pub invariant-loop-i : goal.invariant-loop-i
invariant-loop-i l = l.x-items ≡ laid (λ (j : ℕ). number l.list j) l.initial.x-items 0 l.i
