use borrow.Author.Tests.{lt-ltb, le-ltb}
use Rattle.sums.specs.Sums.{with_bits}
use Rattle.sums.proofs.with_bits.Goals as goal

pub returns-then-k-lt2 : goal.returns-then-k-lt2
unfolding with_bits
returns-then-k-lt2 c = rw (lt-ltb _ _ c.if-k-lt2.true)

pub returns-else-k-lt2 : goal.returns-else-k-lt2
unfolding with_bits
returns-else-k-lt2 c = rw (le-ltb _ _ c.if-k-lt2.false, c.number.ensures)
