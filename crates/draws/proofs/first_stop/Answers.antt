use mathlib.Core.Path.{◌∙◌}
use borrow.Author.Tests.{ne_eqb}
use Rattle.relax.specs.Jumps.{first_stop}
use Rattle.draws.proofs.first_stop.Goals as goal

pub returns-then-lengths-p-eq0 : goal.returns-then-lengths-p-eq0
unfolding first_stop
returns-then-lengths-p-eq0 c = c.from.ensures ∙ rw c.if-lengths-p-eq0.true

pub returns-else-lengths-p-eq0 : goal.returns-else-lengths-p-eq0
unfolding first_stop
returns-else-lengths-p-eq0 c = rw (ne_eqb _ _ c.if-lengths-p-eq0.false)
