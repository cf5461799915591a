use borrow.Author.Tests.{eq-eqb, ne_eqb}
use Rattle.base.specs.Upto.{literal_0}
use Rattle.relax.specs.Jumps.{copy_from}
use Rattle.relax.proofs.copy_bits.Goals as goal

pub returns-then-q-n : goal.returns-then-q-n
unfolding copy_from
returns-then-q-n c = rw (eq-eqb _ _ c.if-q-n.true) literal_0

pub returns : goal.returns
unfolding copy_from
returns c = rw (ne_eqb _ _ c.if-q-n.false, c.run_from.ensures)
