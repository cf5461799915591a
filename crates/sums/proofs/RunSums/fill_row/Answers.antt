-- `sums::RunSums::fill_row`. The loop's invariant: what k ones cost, and the row's first k places laid.
use mathlib.Core.Path.{◌≡◌, sym, ◌∙◌}
use Prim.Native.Nat.{◌+◌, ◌-◌, ◌*◌}
use native.Mathlib.Omega.{arith}
use Rattle.base.specs.Cells.{laid_none, laid-step, laid_done}
use Rattle.base.specs.Upto.{literal_0}
use Rattle.sums.specs.SumLaws.{full_none}
use Rattle.sums.proofs.RunSums.fill_row.Goals as goal

pub loop-k-init : goal.loop-k-init
loop-k-init c = (literal_0 ∙ full_none _ _ _, sym (laid_none _ _ _), sym (laid_none _ _ _))

pub row_step-ended-requires : goal.row_step-ended-requires
row_step-ended-requires c = (omega arith, c.loop-k.invariant.0)

pub loop-k-preserved : goal.loop-k-preserved
loop-k-preserved c = let z : c.args.row * 12 + c.loop-k.k - c.args.row * 12 ≡ c.loop-k.k = omega arith in (
  c.row_step-ended.ensures.1,
  laid-step _ _ _ _ _ _ c.loop-k.invariant.1 (rw z c.row_step-ended.ensures.0),
  laid-step _ _ _ _ _ _ c.loop-k.invariant.2 (rw z c.loop-k.invariant.0),
)

pub returns : goal.returns
returns c = let e : c.loop-k.k ≡ 12 = omega arith in (laid_done _ _ _ _ _ _ c.loop-k.invariant.1 e, laid_done _ _ _ _ _ _ c.loop-k.invariant.2 e)
