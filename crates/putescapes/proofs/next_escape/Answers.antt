-- `putescapes::next_escape`. The loop's invariant: no cell passed escapes.
use native.Mathlib.Omega.{arith}
use Rattle.std.proofs.Common.{◌≡◌}
use Rattle.putescapes.specs.Cells.{quiet_on}
use Rattle.putescapes.proofs.next_escape.Goals as goal

pub past_quiet-i-requires : goal.past_quiet-i-requires
past_quiet-i-requires c = (c.requires.0, c.requires.1, c.requires.2)

pub loop-i-init : goal.loop-i-init
loop-i-init c = c.past_quiet-i.ensures.2

pub loop-i-preserved : goal.loop-i-preserved
loop-i-preserved c = let l = c.loop-i in quiet_on c.args.block.now c.args.from l.i l.invariant c.if-block-i.false

pub returns-then-block-i : goal.returns-then-block-i
returns-then-block-i c = record { from = omega arith; most = omega arith; none = c.loop-i.invariant; here = λ h. c.if-block-i.true }

pub returns : goal.returns
returns c = let z : c.loop-i.i ≡ c.args.n = omega arith in record { from = omega arith; most = omega arith; none = rw z at c.loop-i.invariant; here = λ h. absurd (omega arith) }
