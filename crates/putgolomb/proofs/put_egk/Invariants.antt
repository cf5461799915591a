-- `putgolomb::put_egk`. The invariant: the rest of the value, coded from here on, makes the whole.
use mathlib.Core.Path.{◌≡◌}
use Prim.Native.Nat.{◌+◌, ◌^◌, ◌≤◌}
use lib.ListN.{length}
use Rattle.base.specs.Laid.{Left}
use Rattle.h265.specs.Strings.{egk}
use Rattle.putgolomb.proofs.put_egk.Given as goal

abbrev pub invariant-loop-p : goal.invariant-loop-p
invariant-loop-p l = (l.p ≡ 2 ^ l.k) × (l.v + l.p ≤ 73727) × (l.to + l.order ≡ l.at + l.k) × (l.k ≤ 16) × (length l.list ≡ length l.initial.list) × Left l.initial.list l.at (egk l.order l.value) l.list l.to (egk l.k l.v)

abbrev pub decreases-loop-p : goal.decreases-loop-p
decreases-loop-p l = l.v
