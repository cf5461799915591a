-- `replay::copy_cells`: what is left to copy makes the whole.
use Rattle.std.proofs.Common.{◌≡◌, ◌-◌}
use Rattle.replay.specs.Into.{copy_into}
use Rattle.replay.proofs.copy_cells.Given as goal

abbrev pub invariant-loop-i : goal.invariant-loop-i
invariant-loop-i l = copy_into l.size (l.to - l.i) l.i l.cells ≡ copy_into l.size (l.to - l.from) l.from l.initial.cells
