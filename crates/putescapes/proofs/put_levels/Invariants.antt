-- `putescapes::put_levels`. The invariant: the levels that are left, laid from here on, make the whole.
use mathlib.Core.Path.{◌≡◌}
use Prim.Native.Nat.{◌+◌, ◌-◌, ◌*◌, ◌≤◌, ◌<◌}
use lib.ListN.{length}
use Rattle.base.specs.Laid.{Left}
use Rattle.flat.specs.Flat.{number, block_of}
use Rattle.putescapes.specs.Escapes.{levels_from}
use Rattle.putescapes.proofs.put_levels.Given as goal

abbrev pub invariant-loop-i : goal.invariant-loop-i
invariant-loop-i l = (l.i ≤ l.n) × (l.p ≤ l.at + 33 * l.i) × (length l.list ≡ length l.initial.list) × (l.i < l.n → number l.block (336 + l.i) ≡ number l.block 5) × Left l.initial.list l.at (levels_from (block_of l.block) l.k l.depth l.n 0) l.list l.p (levels_from (block_of l.block) l.k l.depth l.n l.i)

abbrev pub decreases-loop-i : goal.decreases-loop-i
decreases-loop-i l = l.n - l.i
