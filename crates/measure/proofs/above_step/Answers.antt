use Rattle.measure.proofs.above_step.Goals as goal

pub returns-then-here : goal.returns-then-here
returns-then-here c = rw c.if-here.true

pub returns-else-here : goal.returns-else-here
returns-else-here c = rw c.if-here.false
