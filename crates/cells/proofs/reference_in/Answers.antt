use borrow.Author.Tests.{ne_eqb}
use Rattle.cells.specs.Steps.{reference_in}
use Rattle.cells.proofs.reference_in.Goals as goal

pub returns-then-p-eq0 : goal.returns-then-p-eq0
unfolding reference_in
returns-then-p-eq0 c = rw c.if-p-eq0.true

pub returns-then-k : goal.returns-then-k
unfolding reference_in
returns-then-k c = rw (ne_eqb _ _ c.if-p-eq0.false, c.if-k.true)

pub returns-else-k : goal.returns-else-k
unfolding reference_in
returns-else-k c = rw (ne_eqb _ _ c.if-p-eq0.false, c.if-k.false)
