-- `luma::luma_exceeds`: after some samples the flags mark their values, and the values met are counted. Assumes nothing.
use Rattle.std.proofs.Common.{sym, arith, length}
use Rattle.census.specs.Census.{met_by}
use Rattle.census.specs.Laws.{met_le}
use Rattle.luma.specs.Luma.{coarse}
use Rattle.luma.specs.Laws.{flags-none, flags-turn, exceeds}
use Rattle.luma.proofs.luma_exceeds.Goals as goal

pub loop-key-init : goal.loop-key-init
unfolding met_by
loop-key-init c = (omega arith, flags-none)

pub mark-met-requires : goal.mark-met-requires
mark-met-requires c = (c.coarse_of.ensures.1, omega (arith, met_le (coarse c.args.shift) c.args.samples.now c.loop-key.key-index, c.loop-key.invariant.1.count))

pub returns-then-limit-met : goal.returns-then-limit-met
returns-then-limit-met c =
    let f = coarse c.args.shift in
    let w = flags-turn f c.args.samples.now c.loop-key.key-index c.loop-key.invariant.1 c.coarse_of.ensures.0 c.coarse_of.ensures.1 c.mark-met.ensures in
    sym (exceeds f c.args.samples.now c.loop-key.key-index (length c.args.samples.now) c.args.limit c.mark-met.result (omega arith) w.count c.if-limit-met.true)

pub loop-key-preserved : goal.loop-key-preserved
loop-key-preserved c = (
  c.if-limit-met.false,
  flags-turn (coarse c.args.shift) c.args.samples.now c.loop-key.key-index c.loop-key.invariant.1 c.coarse_of.ensures.0 c.coarse_of.ensures.1 c.mark-met.ensures,
)
