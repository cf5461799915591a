-- `flat::palette_of`. The loop's invariant: the places passed are laid.
use Rattle.std.proofs.Common.{ℕ, ◌+◌, ◌*◌, sym, replicate}
use Rattle.base.specs.Cells.{laid_none, laid_on_lem}
use Rattle.flat.specs.Flat.{color_at}
use Rattle.model.specs.Domain.{no_color}
use Rattle.flat.proofs.palette_of.Goals as goal

pub loop-i-init : goal.loop-i-init
loop-i-init c = sym (laid_none _ _ _)

pub loop-i-preserved : goal.loop-i-preserved
loop-i-preserved c = laid_on_lem (λ (j : ℕ). color_at c.args.list.now (16 + 3 * j)) (replicate 64 no_color) _ _ _ c.loop-i.invariant c.color_in.ensures
