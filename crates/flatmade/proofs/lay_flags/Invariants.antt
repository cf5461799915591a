-- `flatmade::lay_flags`. The loop's invariant: what is left makes the whole.
use mathlib.Core.List.{map}
use mathlib.Core.Path.{◌≡◌}
use Prim.Native.Nat.{◌+◌}
use lib.ListN.{drop}
use lib.Seq.{sets}
use Rattle.h265.specs.Strings.{bit}
use Rattle.flatmade.proofs.lay_flags.Given as goal

abbrev pub invariant-loop-i : goal.invariant-loop-i
invariant-loop-i l = (sets l.out (208 + l.i) (map bit (drop l.i l.flags)) ≡ sets l.initial.out 208 (map bit l.flags))
