-- `flat::flags_of`. The loop's invariant: the places passed are laid.
use Rattle.std.proofs.Common.{◌≡◌, ℕ, ◌+◌}
use Rattle.base.specs.Cells.{laid}
use Rattle.flat.specs.Flat.{number}
use lib.Dec.{eqb}
use Rattle.flat.proofs.flags_of.Given as goal

abbrev pub invariant-loop-i : goal.invariant-loop-i
invariant-loop-i l = l.flag-items ≡ laid (λ (j : ℕ). eqb (number l.list (208 + j)) 1) l.initial.flag-items 0 l.i
