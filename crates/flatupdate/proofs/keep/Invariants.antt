-- `flatupdate::keep`. The loop's invariant: what is laid and what is to follow make the whole.
use mathlib.Core.Path.{◌≡◌}
use mathlib.Core.List.{List}
use Prim.Native.Nat.{◌-◌, ◌≤◌}
use lib.ListN.{length}
use Rattle.model.specs.declared.Color.{Color}
use Rattle.flat.specs.Flat.{colors_of}
use Rattle.flatupdate.specs.Renewing.{Keeping}
use Rattle.flatupdate.proofs.keep.Given as goal

abbrev pub invariant-loop-j : goal.invariant-loop-j
invariant-loop-j l = (l.j ≤ l.flags) × (l.k ≤ l.limit) × (length l.list ≡ length l.initial.list) × ((cs : List Color) → l.old ≡ colors_of cs → Keeping l.initial.list l.block l.first l.flags l.limit cs l.k l.j l.list)

abbrev pub decreases-loop-j : goal.decreases-loop-j
decreases-loop-j l = l.flags - l.j
