-- `smoothcosts::run_above_fits`: the index above one place more.
use Rattle.std.proofs.Common.{sym, ◌∙◌, arith}
use Rattle.smooth.specs.Smooth.{above_fits}
use Rattle.smoothcosts.proofs.Turns.{tests_first, tests_more, tests_fail}
use Rattle.smoothcosts.proofs.run_above_fits.Goals as goal

pub loop-i-init : goal.loop-i-init
loop-i-init c =
    let s = c.args.s.now in
    tests_first (above_fits s.size s.escape s.tolerance s.palette.now s.cells.now c.args.indices.now c.args.value) c.args.start

pub returns-then-not-above_fits : goal.returns-then-not-above_fits
returns-then-not-above_fits c =
    let s = c.args.s.now in
    tests_fail (above_fits s.size s.escape s.tolerance s.palette.now s.cells.now c.args.indices.now c.args.value) c.args.start c.loop-i.i c.args.len (omega arith) (omega arith) (sym c.above_fits.ensures ∙ c.if-not-above_fits.true)

pub loop-i-preserved : goal.loop-i-preserved
loop-i-preserved c =
    let s = c.args.s.now in
    tests_more (above_fits s.size s.escape s.tolerance s.palette.now s.cells.now c.args.indices.now c.args.value) c.args.start c.loop-i.i (omega arith) c.loop-i.invariant (sym c.above_fits.ensures ∙ c.if-not-above_fits.false)
