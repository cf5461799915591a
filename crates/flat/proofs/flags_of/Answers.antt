-- `flat::flags_of`. The loop's invariant: the places passed are laid.
use Rattle.std.proofs.Common.{ℕ, ◌+◌, sym, refl, replicate}
use Rattle.base.specs.Cells.{laid_none, laid_on_lem}
use Rattle.flat.specs.Flat.{number}
use lib.Dec.{eqb}
use mathlib.Core.Bool.{false}
use Rattle.flat.proofs.flags_of.Goals as goal

pub loop-i-init : goal.loop-i-init
loop-i-init c = sym (laid_none _ _ _)

pub loop-i-preserved : goal.loop-i-preserved
loop-i-preserved c = laid_on_lem (λ (j : ℕ). eqb (number c.args.list.now (208 + j)) 1) (replicate 128 false) _ _ _ c.loop-i.invariant refl
