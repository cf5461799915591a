use mathlib.Core.Path.{◌∙◌}
use borrow.Author.Tests.{lt-ltb, le-ltb, ne_eqb}
use Rattle.base.specs.Upto.{literal_0}
use Rattle.sums.specs.Sums.{run_from}
use Rattle.lengths.proofs.run_from.Goals as goal

pub returns-then-longest-eq0 : goal.returns-then-longest-eq0
unfolding run_from
returns-then-longest-eq0 c = rw c.if-longest-eq0.true literal_0

pub returns-then-flog-k : goal.returns-then-flog-k
unfolding run_from
returns-then-flog-k c = c.suffix_sum.ensures ∙ rw (ne_eqb _ _ c.if-longest-eq0.false, ← c.flog.ensures, ← c.prefix_of-k.ensures.0, lt-ltb _ _ c.if-flog-k.true)

pub returns-else-flog-k : goal.returns-else-flog-k
unfolding run_from
returns-else-flog-k c = rw (ne_eqb _ _ c.if-longest-eq0.false, ← c.flog.ensures, ← c.prefix_of-k.ensures.0, le-ltb _ _ c.if-flog-k.false)
