use borrow.Author.Tests.{ne_eqb}
use Rattle.starts.proofs.alphabet_at.Goals as goal

pub returns-then-p-eq0 : goal.returns-then-p-eq0
returns-then-p-eq0 c = rw c.if-p-eq0.true

pub returns-else-p-eq0 : goal.returns-else-p-eq0
returns-else-p-eq0 c = rw (ne_eqb _ _ c.if-p-eq0.false)
