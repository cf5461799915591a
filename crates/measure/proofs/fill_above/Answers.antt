-- `measure::fill_above`. The loop's invariant: the cells of the rows so far are laid.
use mathlib.Core.Path.{◌≡◌, sym, ap}
use Prim.Native.Nat.{ℕ, ◌*◌}
use native.Mathlib.Omega.{arith}
use native.Mathlib.Nat.{zero-mul}
use Rattle.base.specs.Cells.{laid_none, laid_done, laid-row}
use Rattle.measure.specs.Steps.{next_row}
use Rattle.measure.proofs.fill_above.Goals as goal

pub loop-row-init : goal.loop-row-init
loop-row-init c = rw (zero-mul c.args.size) (sym (laid_none _ _ _))

pub above_row-requires : goal.above_row-requires
above_row-requires c = (omega arith, c.requires)

pub loop-row-preserved : goal.loop-row-preserved
loop-row-preserved c = laid_done _ _ _ 0 _ _ (laid-row _ _ _ _ _ _ c.loop-row.invariant c.above_row.ensures) (next_row c.loop-row.row c.args.size)

pub returns : goal.returns
returns c = let e : c.loop-row.row ≡ c.args.size = omega arith in laid_done _ _ _ 0 _ _ c.loop-row.invariant (ap (λ (r : ℕ). r * c.args.size) e)
