-- `levels::levels`: the cells passed have their levels.
use Rattle.std.proofs.Common.{◌≡◌, ℕ, get_or}
use Rattle.base.specs.Cells.{laid}
use Rattle.levels.specs.Levels.{levels_at}
use Rattle.levels.proofs.levels.Given as goal

abbrev pub invariant-loop-i : goal.invariant-loop-i
invariant-loop-i l = l.out ≡ laid (λ (j : ℕ). levels_at l.s l.n (get_or l.indices j 0) (get_or l.cells j 0)) l.initial.out 0 l.i
