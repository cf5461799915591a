-- `recon::paint`. The loop's invariant: the entries of the cells passed are laid.
use Rattle.std.proofs.Common.{◌≡◌, ℕ, get_or}
use Rattle.base.specs.Cells.{laid}
use Rattle.recon.proofs.paint.Given as goal

abbrev pub invariant-loop-i : goal.invariant-loop-i
invariant-loop-i l = l.out ≡ laid (λ (j : ℕ). get_or l.palette (get_or l.indices j 0) 0) l.initial.out 0 l.i
