use native.Mathlib.Omega.{arith}
use borrow.Author.Tests.{lt-ltb, le-ltb, ne_eqb}
use Rattle.sums.specs.Sums.{row_of}
use Rattle.sums.proofs.row_of.Goals as goal

pub returns-then-above : goal.returns-then-above
unfolding row_of
returns-then-above c = (rw c.if-above.true, omega arith)

pub returns-then-sent-eq0 : goal.returns-then-sent-eq0
unfolding row_of
returns-then-sent-eq0 c = (rw (c.if-above.false, c.if-sent-eq0.true), omega arith)

pub returns-then-sent-lt3 : goal.returns-then-sent-lt3
unfolding row_of
returns-then-sent-lt3 c = (rw (c.if-above.false, ne_eqb _ _ c.if-sent-eq0.false, lt-ltb _ _ c.if-sent-lt3.true), omega arith)

pub returns-else-sent-lt3 : goal.returns-else-sent-lt3
unfolding row_of
returns-else-sent-lt3 c = (rw (c.if-above.false, ne_eqb _ _ c.if-sent-eq0.false, le-ltb _ _ c.if-sent-lt3.false), omega arith)
