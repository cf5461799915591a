-- `flatcounter::lay_keys`. The loop's invariant: what is left makes the whole.
use Rattle.std.proofs.Common.{◌≡◌, length, drop}
use Rattle.std.proofs.lemmas.List.Edits.{sets}
use Rattle.flatcounter.proofs.lay_keys.Given as goal

abbrev pub invariant-loop-i : goal.invariant-loop-i
invariant-loop-i l = (length l.list ≡ length l.initial.list) × (sets l.list l.i (drop l.i l.xs) ≡ sets l.initial.list 0 l.xs)
