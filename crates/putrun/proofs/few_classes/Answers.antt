-- `putrun::few_classes`: the low bytes of the word.
use native.Mathlib.Omega.{arith}
use borrow.Author.Tests.{lt-ltb, le-ltb}
use Rattle.putrun.specs.Few.{few_classes}
use Rattle.putrun.proofs.few_classes.Goals as goal

pub returns-then-more-lt4 : goal.returns-then-more-lt4
unfolding few_classes
returns-then-more-lt4 c = (rw (c.word_of-w.ensures, lt-ltb _ _ c.if-more-lt4.true), omega arith)

pub returns-else-more-lt4 : goal.returns-else-more-lt4
unfolding few_classes
returns-else-more-lt4 c = (rw (c.word_of-w.ensures, le-ltb _ _ c.if-more-lt4.false), omega arith)
