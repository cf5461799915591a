-- `source::joined`: one colour more, and all of them.
use Rattle.std.proofs.Common.{◌≡◌, length, arith}
use Rattle.source.specs.Joined.{above-none, above-next}
use Rattle.source.proofs.joined.Goals as goal

pub loop-c-init : goal.loop-c-init
loop-c-init c = above-none _

pub loop-c-preserved : goal.loop-c-preserved
loop-c-preserved c = above-next c.args.cells.now c.loop-c.c-index c.loop-c.all c.loop-c.invariant

pub returns : goal.returns
returns c = let e : c.loop-c.c-index ≡ length c.args.cells.now = omega arith in rw e at c.loop-c.invariant
