-- `whole::indices_hold`: whether the indices passed are at most m.
use Rattle.std.proofs.Common.{◌≡◌, leb, get_or}
use Rattle.base.specs.Tests.{up_to}
use Rattle.whole.proofs.indices_hold.Given as goal

abbrev pub invariant-loop-x : goal.invariant-loop-x
invariant-loop-x l = l.ok ≡ up_to l.x-index (λ j. leb (get_or l.indices j 0) l.m)
