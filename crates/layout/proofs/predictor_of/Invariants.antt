-- `layout::predictor_of`. The loop's invariant: the places passed are laid.
use Rattle.std.proofs.Common.{◌≡◌, ℕ, ◌+◌, ◌*◌, replicate}
use Rattle.base.specs.Cells.{laid}
use Rattle.model.specs.Domain.{no_color}
use Rattle.layout.specs.Layout.{entry_at}
use Rattle.layout.proofs.predictor_of.Given as goal

abbrev pub invariant-loop-i : goal.invariant-loop-i
invariant-loop-i l = l.entry-items ≡ laid (λ (j : ℕ). entry_at l.file (36 + 6 * j)) (replicate 128 no_color) 0 l.i
