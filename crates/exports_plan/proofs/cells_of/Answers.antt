-- `exports_plan::cells_of`. The loop's invariant: the places passed are laid.
use Rattle.std.proofs.Common.{sym, ℕ, ◌+◌, replicate, arith}
use Rattle.base.specs.Cells.{laid_none, laid_on_lem, laid_done}
use Rattle.flat.specs.Flat.{number, byte, block_of}
use Rattle.exports_plan.proofs.cells_of.Goals as goal

pub loop-i-init : goal.loop-i-init
loop-i-init c = sym (laid_none _ _ _)

pub loop-i-preserved : goal.loop-i-preserved
loop-i-preserved c = laid_on_lem (λ (j : ℕ). byte (number c.args.block.now (336 + j))) (replicate 1024 0) c.loop-i.cell-items c.loop-i.i _ c.loop-i.invariant c.min.ensures

pub returns : goal.returns
unfolding block_of
returns c = laid_done _ _ _ _ _ _ c.loop-i.invariant (omega arith)
