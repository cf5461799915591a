use Rattle.std.proofs.Common.{arith, le-leb}
use Rattle.std.proofs.lemmas.Bool.{lt-leb}
use Rattle.planonto.proofs.put_fitting.Goals as goal

pub put_path-requires : goal.put_path-requires
put_path-requires c = (c.requires.0, c.requires.1, omega arith)

pub returns-then-count-list : goal.returns-then-count-list
returns-then-count-list c = rw (le-leb _ _ c.if-count-list.true) c.put_path.ensures

pub returns-else-count-list : goal.returns-else-count-list
returns-else-count-list c = rw (lt-leb _ _ c.if-count-list.false)
