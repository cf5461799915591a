-- `flatcounter::read_keys`. The loop's invariant: the places passed are laid.
use Rattle.std.proofs.Common.{◌≡◌, ℕ, length}
use Rattle.base.specs.Cells.{laid}
use Rattle.flat.specs.Flat.{number}
use Rattle.flatcounter.proofs.read_keys.Given as goal

abbrev pub invariant-loop-i : goal.invariant-loop-i
invariant-loop-i l = (length l.out ≡ 256) × (l.out ≡ laid (λ (j : ℕ). number l.list j) l.initial.out 0 l.i)
