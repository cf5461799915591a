-- `recon::none_escape`. The loop's invariant: the test of the indices passed.
use Rattle.std.proofs.Common.{◌≡◌, not, eqb, get_or}
use Rattle.base.specs.Tests.{up_to}
use Rattle.recon.proofs.none_escape.Given as goal

abbrev pub invariant-loop-k : goal.invariant-loop-k
invariant-loop-k l = l.ok ≡ up_to l.k-index (λ j. not (eqb (get_or l.indices j 0) l.n))
