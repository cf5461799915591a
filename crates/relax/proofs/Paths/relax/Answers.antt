use Rattle.paths.specs.Plan.{relaxed}
use Rattle.relax.proofs.Paths.relax.Goals as goal

pub returns-then-c-self : goal.returns-then-c-self
unfolding relaxed
returns-then-c-self c = rw c.if-c-self.true

pub returns-else-c-self : goal.returns-else-c-self
unfolding relaxed
returns-else-c-self c = rw c.if-c-self.false
