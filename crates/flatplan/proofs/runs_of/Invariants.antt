-- `flatplan::runs_of`. The loop's invariant: the places passed are laid.
use mathlib.Core.Path.{◌≡◌}
use Prim.Native.Nat.{ℕ, ◌*◌}
use Rattle.base.specs.Cells.{laid}
use Rattle.flatplan.specs.Flat.{run_at}
use Rattle.flatplan.proofs.runs_of.Given as goal

abbrev pub invariant-loop-i : goal.invariant-loop-i
invariant-loop-i l = (l.out ≡ laid (λ (j : ℕ). run_at l.list (4 * j)) l.initial.out 0 l.i)
