-- `blocks::unpack_palette`. The loop's invariant: the entries passed are laid.
use Rattle.std.proofs.Common.{◌≡◌, ℕ, length, get_or}
use Rattle.base.specs.Cells.{laid}
use Rattle.blocks.specs.Blocks.{color_of}
use Rattle.blocks.proofs.unpack_palette.Given as goal

abbrev pub invariant-loop-i : goal.invariant-loop-i
invariant-loop-i l = (length l.out ≡ 64) × (l.out ≡ laid (λ (j : ℕ). color_of (get_or l.palette j 0)) l.initial.out 0 l.i)
