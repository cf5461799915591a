-- `smoothcosts::run_cost`: one place more.
use Rattle.std.proofs.Common.{arith}
use Rattle.smooth.specs.Smooth.{delta}
use Rattle.smoothcosts.proofs.Turns.{sum_first, sum_more}
use Rattle.smoothcosts.proofs.run_cost.Goals as goal

pub loop-i-init : goal.loop-i-init
loop-i-init c = sum_first _ c.args.start

pub loop-i-preserved : goal.loop-i-preserved
loop-i-preserved c =
    let s = c.args.s.now in
    sum_more (delta s.format s.size s.cells.now c.args.from c.args.to) c.args.start c.loop-i.i _ _ (omega arith) c.loop-i.invariant c.delta-sum.ensures
