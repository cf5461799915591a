-- `putescapes::past_quiet`. The loop's invariant: no cell passed escapes.
use Prim.Native.Nat.{◌+◌}
use native.Mathlib.Omega.{arith}
use Rattle.putescapes.specs.Cells.{quiet_join}
use Rattle.putescapes.proofs.past_quiet.Goals as goal

pub loop-i-init : goal.loop-i-init
loop-i-init c = (omega arith, omega arith, λ c h m. absurd (omega arith))

pub overflow_add-i : goal.overflow_add-i
overflow_add-i c = omega arith

pub quiet-requires : goal.quiet-requires
quiet-requires c = (c.requires.0, omega arith)

pub loop-i-smaller : goal.loop-i-smaller
loop-i-smaller c = omega arith

pub loop-i-preserved : goal.loop-i-preserved
loop-i-preserved c = let l = c.loop-i in (omega arith, omega arith, quiet_join c.args.block.now c.args.from l.i (l.i + 16) l.invariant.2 (c.quiet.ensures c.if-quiet.true))

pub returns-else-quiet : goal.returns-else-quiet
returns-else-quiet c = (omega arith, omega arith, c.loop-i.invariant.2)

pub returns-after-loop-i : goal.returns-after-loop-i
returns-after-loop-i c = (omega arith, omega arith, c.loop-i.invariant.2)
