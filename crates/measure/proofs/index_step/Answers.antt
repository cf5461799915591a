use borrow.Author.Tests.{eq-eqb, ne_eqb}
use Rattle.measure.proofs.index_step.Goals as goal

pub returns-then-v-next : goal.returns-then-v-next
returns-then-v-next c = rw (eq-eqb _ _ c.if-v-next.true)

pub returns-else-v-next : goal.returns-else-v-next
returns-else-v-next c = rw (ne_eqb _ _ c.if-v-next.false)
