-- `flatcounter::lay_marks`: the generation, then the stamps.
use mathlib.Core.Path.{sym}
use native.Mathlib.Omega.{arith}
use mathlib.Core.List.{◌∷◌}
use Rattle.flatcounter.specs.CounterLaws.{past_end}
use Rattle.flatcounter.proofs.lay_marks.Goals as goal

pub returns-then-list-eq0 : goal.returns-then-list-eq0
returns-then-list-eq0 c = sym (past_end (c.args.generation ∷ c.args.stamp.now) c.args.list.now 0 (omega arith))
