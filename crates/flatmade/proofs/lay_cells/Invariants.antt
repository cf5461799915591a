-- `flatmade::lay_cells`. The loop's invariant: what is left makes the whole.
use mathlib.Core.Path.{◌≡◌}
use Prim.Native.Nat.{◌-◌}
use lib.ListN.{length, replicate}
use lib.Seq.{sets}
use Rattle.flatmade.proofs.lay_cells.Given as goal

abbrev pub invariant-loop-i : goal.invariant-loop-i
invariant-loop-i l = (length l.list ≡ length l.initial.list) × (sets l.list l.i (replicate (4432 - l.i) 0) ≡ sets l.initial.list 336 (replicate 4096 0))
