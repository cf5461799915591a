use Rattle.std.proofs.Common.{ne_eqb}
use Rattle.paths.specs.Cells.{draws_from}
use Rattle.cells.proofs.draws_from.Goals as goal

pub returns-then-p-eq0 : goal.returns-then-p-eq0
unfolding draws_from
returns-then-p-eq0 c = rw c.if-p-eq0.true

pub returns-else-p-eq0 : goal.returns-else-p-eq0
unfolding draws_from
returns-else-p-eq0 c = rw (ne_eqb _ _ c.if-p-eq0.false)
