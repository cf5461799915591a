-- `flatrecon::quiet`. The loop's invariant: the cells passed were tested.
use Rattle.std.proofs.Common.{◌≡◌, ◌+◌, not, eqb}
use Rattle.base.specs.Tests.{up_to}
use Rattle.flat.specs.Flat.{number}
use Rattle.flatrecon.proofs.quiet.Given as goal

abbrev pub invariant-loop-x : goal.invariant-loop-x
invariant-loop-x l = l.ok ≡ up_to l.x-index (λ j. not (eqb (number l.list (336 + (l.i + j))) l.p))
