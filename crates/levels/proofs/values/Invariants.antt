-- `levels::values`: what the cells passed decode to is laid.
use Rattle.std.proofs.Common.{◌≡◌, ℕ, get_or}
use Rattle.base.specs.Cells.{laid}
use Rattle.model.specs.Whole.{no_levels}
use Rattle.levels.specs.Levels.{value_at}
use Rattle.levels.proofs.values.Given as goal

abbrev pub invariant-loop-i : goal.invariant-loop-i
invariant-loop-i l = l.out ≡ laid (λ (j : ℕ). value_at l.s l.palette l.n (get_or l.indices j 0) (get_or l.escapes j no_levels)) l.initial.out 0 l.i
