-- `flatplan::prefix_of`. The loop's invariant: the places passed are laid.
use mathlib.Core.Path.{◌≡◌}
use Prim.Native.Nat.{ℕ, ◌+◌, ◌*◌}
use Rattle.base.specs.Cells.{laid}
use Rattle.flatplan.specs.Flat.{pair_at}
use Rattle.flatplan.proofs.prefix_of.Given as goal

abbrev pub invariant-loop-i : goal.invariant-loop-i
invariant-loop-i l = (l.pair-items ≡ laid (λ (j : ℕ). pair_at l.list (2 + 2 * j)) l.initial.pair-items 0 l.i)
