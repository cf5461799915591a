-- `figure::squared`: the square of a gap below 65536.
use Rattle.figure.specs.Laws.{square-small}
use Rattle.figure.proofs.squared.Goals as goal

pub returns : goal.returns
returns c = (rw c.abs_diff-d.ensures, rw c.abs_diff-d.ensures (square-small c.args.a c.args.b c.requires.0 c.requires.1))
