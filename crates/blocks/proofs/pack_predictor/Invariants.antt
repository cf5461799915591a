-- `blocks::pack_predictor`. The loop's invariant: the entries passed are laid.
use Rattle.std.proofs.Common.{◌≡◌, ℕ, length, get_or}
use Rattle.base.specs.Cells.{laid}
use Rattle.model.specs.Domain.{no_color}
use Rattle.entries.specs.Entries.{packed_of}
use Rattle.blocks.proofs.pack_predictor.Given as goal

abbrev pub invariant-loop-i : goal.invariant-loop-i
invariant-loop-i l = (length l.out ≡ 128) × (l.out ≡ laid (λ (j : ℕ). packed_of (get_or l.colors j no_color)) l.initial.out 0 l.i)
