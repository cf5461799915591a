-- `putrun::word_of`: the four words.
use Rattle.h265.specs.Strings.{run_class}
use Rattle.putrun.specs.Word.{word_from, word_steps}
use Rattle.putrun.proofs.word_of.Goals as goal

pub returns-then-above : goal.returns-then-above
unfolding word_from run_class
returns-then-above c = rw c.if-above.true

pub returns : goal.returns
returns c = rw (c.if-above.false, c.past.ensures.0, c.past-2.ensures.0) (word_steps c.args.sent)
