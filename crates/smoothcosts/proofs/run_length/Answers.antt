-- `smoothcosts::run_length`: one place more of the run, or its end.
use Rattle.std.proofs.Common.{◌-◌, get_or, arith}
use Rattle.smooth.specs.Laws.{stretch-more, stretch-stop, stretch-end, run_first}
use Rattle.smoothcosts.proofs.run_length.Goals as goal

pub loop-end-init : goal.loop-end-init
loop-end-init c = run_first c.args.n c.args.indices.now c.args.start c.requires.0

pub returns-then-indices-end : goal.returns-then-indices-end
returns-then-indices-end c =
    let e = stretch-stop c.args.indices.now (get_or c.args.indices.now c.args.start 0) (c.args.n - c.loop-end.end) c.loop-end.end c.if-indices-end.true in
    (omega (arith, e), omega arith, omega arith)

pub loop-end-preserved : goal.loop-end-preserved
loop-end-preserved c =
    let e = stretch-more c.args.indices.now (get_or c.args.indices.now c.args.start 0) c.args.n c.loop-end.end (omega arith) c.if-indices-end.false in
    omega (arith, e)

pub returns : goal.returns
returns c =
    let e = stretch-end c.args.indices.now (get_or c.args.indices.now c.args.start 0) c.args.n c.loop-end.end (omega arith) in
    (omega (arith, e), omega arith, omega arith)
