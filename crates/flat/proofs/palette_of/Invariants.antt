-- `flat::palette_of`. The loop's invariant: the places passed are laid.
use Rattle.std.proofs.Common.{◌≡◌, ℕ, ◌+◌, ◌*◌}
use Rattle.base.specs.Cells.{laid}
use Rattle.flat.specs.Flat.{color_at}
use Rattle.flat.proofs.palette_of.Given as goal

abbrev pub invariant-loop-i : goal.invariant-loop-i
invariant-loop-i l = l.color-items ≡ laid (λ (j : ℕ). color_at l.list (16 + 3 * j)) l.initial.color-items 0 l.i
