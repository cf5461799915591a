-- `flat::head_of`. The loop's invariant: the places passed are laid.
use Rattle.std.proofs.Common.{ℕ, sym, replicate}
use Rattle.base.specs.Cells.{laid_none, laid_on_lem}
use Rattle.flat.specs.Flat.{number}
use Rattle.flat.proofs.head_of.Goals as goal

pub loop-i-init : goal.loop-i-init
loop-i-init c = sym (laid_none _ _ _)

pub loop-i-preserved : goal.loop-i-preserved
loop-i-preserved c = laid_on_lem (λ (j : ℕ). number c.args.list.now j) (replicate 16 0) _ _ _ c.loop-i.invariant c.number.ensures
