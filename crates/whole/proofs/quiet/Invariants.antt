-- `whole::quiet`: whether none of the cells passed has index p.
use Rattle.std.proofs.Common.{◌≡◌, not, eqb, get_or}
use Rattle.base.specs.Tests.{up_to}
use Rattle.whole.proofs.quiet.Given as goal

abbrev pub invariant-loop-x : goal.invariant-loop-x
invariant-loop-x l = l.ok ≡ up_to l.x-index (λ k. not (eqb (get_or l.x-items k 0) l.p))
