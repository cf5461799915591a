-- `flat::read_escapes`. The loop's invariant: the places passed, four for each turn, are laid.
use Rattle.std.proofs.Common.{◌≡◌, ℕ, ◌+◌, ◌*◌}
use Rattle.base.specs.Cells.{laid}
use Rattle.flat.specs.Flat.{levels_at}
use Rattle.flat.proofs.read_escapes.Given as goal

abbrev pub invariant-loop-k : goal.invariant-loop-k
invariant-loop-k l = l.out ≡ laid (λ (j : ℕ). levels_at l.list (1360 + 3 * j)) l.initial.out 0 (4 * l.k)
