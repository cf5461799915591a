-- `rules::copied_run`: the cells passed were tested.
use Rattle.std.proofs.Common.{◌≡◌, ◌-◌, ◌<◌, ◌≤◌, eqb}
use Rattle.rules.specs.Words.{same, cell_at}
use Rattle.rules.proofs.copied_run.Given as goal

abbrev pub invariant-loop-i : goal.invariant-loop-i
invariant-loop-i l = (l.at ≤ l.i) × (l.i < l.to) × (eqb l.bad 0 ≡ same (cell_at l.cells) (cell_at l.up) (l.i - l.at) l.at)

abbrev pub decreases-loop-i : goal.decreases-loop-i
decreases-loop-i l = l.to - l.i
