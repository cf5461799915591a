-- `flatrecon::paint`. The loop's invariant: the entries of the cells passed are laid.
use Rattle.std.proofs.Common.{◌≡◌, ℕ, ◌+◌, ◌-◌, get_or}
use Rattle.base.specs.Cells.{laid}
use Rattle.flat.specs.Flat.{number}
use Rattle.flatrecon.proofs.paint.Given as goal

abbrev pub invariant-loop-j : goal.invariant-loop-j
invariant-loop-j l = l.out ≡ laid (λ (j : ℕ). get_or l.palette (number l.list (336 + j)) 0) l.initial.out l.i (l.j - l.i)
