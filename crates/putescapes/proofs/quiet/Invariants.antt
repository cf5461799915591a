-- `putescapes::quiet`. The loop's invariant: the cells passed were tested.
use Rattle.std.proofs.Common.{◌≡◌, ℕ, not}
use Rattle.std.proofs.Math.Dec.{eqb}
use Rattle.base.specs.Tests.{up_to}
use Rattle.flat.specs.Flat.{number}
use Rattle.putescapes.proofs.quiet.Given as goal

abbrev pub invariant-loop-x : goal.invariant-loop-x
invariant-loop-x l = l.ok ≡ up_to l.x-index (λ (m : ℕ). not (eqb (number l.x-items m) l.e))
