-- `flatupdate::copy`. The loop's invariant: what is left makes the whole.
use Rattle.std.proofs.Common.{◌≡◌, ◌+◌, length, take, drop}
use Rattle.std.proofs.lemmas.List.Edits.{sets}
use Rattle.flatupdate.proofs.copy.Given as goal

abbrev pub invariant-loop-i : goal.invariant-loop-i
invariant-loop-i l = (length l.list ≡ length l.initial.list) × (sets l.list (l.to + l.i) (drop l.i (take l.n (drop l.from l.source))) ≡ sets l.initial.list l.to (take l.n (drop l.from l.source)))
