-- `flatrecon::entries_in`. The loop's invariant: the entries passed are laid.
use Rattle.std.proofs.Common.{◌≡◌, length}
use Rattle.base.specs.Cells.{laid}
use Rattle.flatrecon.specs.Cells.{entry_of}
use Rattle.flatrecon.proofs.entries_in.Given as goal

abbrev pub invariant-loop-k : goal.invariant-loop-k
invariant-loop-k l = (length l.out ≡ 64) × (l.out ≡ laid (entry_of l.list) l.initial.out 0 l.k)
