-- `flatmade::lay_front`. The loop's invariant: what is left makes the whole.
use mathlib.Core.Path.{◌≡◌}
use lib.ListN.{length, drop}
use lib.Seq.{sets}
use Rattle.flatmade.proofs.lay_front.Given as goal

abbrev pub invariant-loop-i : goal.invariant-loop-i
invariant-loop-i l = (length l.list ≡ length l.initial.list) × (sets l.list l.i (drop l.i l.xs) ≡ sets l.initial.list 0 l.xs)
