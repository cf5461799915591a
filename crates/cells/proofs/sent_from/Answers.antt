use mathlib.Core.Path.{◌∙◌}
use borrow.Author.Tests.{lt-ltb, le-ltb, ne_eqb}
use Rattle.paths.specs.Cells.{sent_from}
use Rattle.syntax.specs.Replay.{less_one}
use Rattle.cells.proofs.sent_from.Goals as goal

pub returns-then-p-eq0 : goal.returns-then-p-eq0
unfolding sent_from
returns-then-p-eq0 c = c.from.ensures ∙ rw c.if-p-eq0.true

pub returns-then-reference-v : goal.returns-then-reference-v
unfolding sent_from less_one
returns-then-reference-v c = c.from-then-reference-v.ensures ∙ rw (ne_eqb _ _ c.if-p-eq0.false, lt-ltb _ _ c.if-reference-v.true)

pub returns-else-reference-v : goal.returns-else-reference-v
unfolding sent_from less_one
returns-else-reference-v c = c.from-else-reference-v.ensures ∙ rw (ne_eqb _ _ c.if-p-eq0.false, le-ltb _ _ c.if-reference-v.false)
