-- `entries::pack_palette`. The loop's invariant: the entries passed are laid.
use Rattle.std.proofs.Common.{◌≡◌, ℕ, get_or}
use Rattle.base.specs.Cells.{laid}
use Rattle.model.specs.Domain.{no_color}
use Rattle.entries.specs.Entries.{packed_of}
use Rattle.entries.proofs.pack_palette.Given as goal

abbrev pub invariant-loop-i : goal.invariant-loop-i
invariant-loop-i l = l.out ≡ laid (λ (j : ℕ). packed_of (get_or l.palette j no_color)) l.initial.out 0 l.i
