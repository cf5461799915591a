-- `flat::indices_of`. The loop's invariant: the places passed are laid.
use Rattle.std.proofs.Common.{◌≡◌, ℕ, ◌+◌}
use Rattle.base.specs.Cells.{laid}
use Rattle.flat.specs.Flat.{number, byte}
use Rattle.flat.proofs.indices_of.Given as goal

abbrev pub invariant-loop-i : goal.invariant-loop-i
invariant-loop-i l = l.index-items ≡ laid (λ (j : ℕ). byte (number l.list (336 + j))) l.initial.index-items 0 l.i
