-- `replay::copy_cells`: what is left to copy makes the whole.
use Rattle.std.proofs.Common.{◌-◌, ◌+◌, sym, ◌∙◌, arith}
use Rattle.replay.specs.Into.{copy_turn, copy_end}
use Rattle.replay.proofs.copy_cells.Goals as goal

pub loop-i-preserved : goal.loop-i-preserved
loop-i-preserved c =
    let b = c.loop-i in
    let g = c.args in
    rw c.above_of.ensures (sym (copy_turn g.size (g.to - b.i) (g.to - (b.i + 1)) b.i b.cells (omega arith)) ∙ b.invariant)

pub returns : goal.returns
returns c =
    let b = c.loop-i in
    let g = c.args in
    sym (copy_end g.size (g.to - b.i) b.i b.cells (omega arith)) ∙ b.invariant
