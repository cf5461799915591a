-- `whole::indices_hold`: one index more, and all of them.
use Rattle.std.proofs.Common.{◌≡◌, length, sym, refl, arith}
use Rattle.base.specs.Tests.{up_to-none}
use Rattle.domain.specs.Taken.{and_next}
use Rattle.whole.proofs.indices_hold.Goals as goal

pub loop-x-init : goal.loop-x-init
loop-x-init c = sym (up_to-none _)

pub loop-x-preserved : goal.loop-x-preserved
loop-x-preserved c = and_next _ c.loop-x.x-index c.loop-x.ok _ c.loop-x.invariant refl

pub returns : goal.returns
returns c = let e : c.loop-x.x-index ≡ length c.args.indices.now = omega arith in rw e at c.loop-x.invariant
