-- `flatplan::prefix_of`. The loop's invariant: the places passed are laid.
use Rattle.std.proofs.Common.{sym, ℕ, ◌+◌, ◌*◌, replicate}
use Rattle.base.specs.Cells.{laid_none, laid_on_lem}
use Rattle.flatplan.specs.Flat.{pair_at, no_pair}
use Rattle.flatplan.proofs.prefix_of.Goals as goal

pub loop-i-init : goal.loop-i-init
loop-i-init c = sym (laid_none _ _ _)

pub loop-i-preserved : goal.loop-i-preserved
loop-i-preserved c = laid_on_lem (λ (j : ℕ). pair_at c.args.list.now (2 + 2 * j)) (replicate 8 no_pair) c.loop-i.pair-items c.loop-i.i _ c.loop-i.invariant c.pair_at.ensures
