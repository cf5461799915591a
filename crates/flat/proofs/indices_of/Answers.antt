-- `flat::indices_of`. The loop's invariant: the places passed are laid.
use Rattle.std.proofs.Common.{arith, ℕ, ◌+◌, sym, replicate}
use Rattle.base.specs.Cells.{laid_none, laid_on_lem, laid_done}
use Rattle.flat.specs.Flat.{number, byte}
use Rattle.flat.proofs.indices_of.Goals as goal

pub loop-i-init : goal.loop-i-init
loop-i-init c = sym (laid_none _ _ _)

pub loop-i-preserved : goal.loop-i-preserved
loop-i-preserved c = laid_on_lem (λ (j : ℕ). byte (number c.args.list.now (336 + j))) (replicate 1024 0) _ _ _ c.loop-i.invariant c.byte.ensures

pub returns : goal.returns
returns c = laid_done _ _ _ _ _ _ c.loop-i.invariant (omega arith)
