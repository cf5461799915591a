-- `exports_plan::velomitra_plan_runs`: from the list where the block holds together, else by way of its record.
use Rattle.exports_plan.specs.Calls.{plan_out}
use Rattle.exports_plan.proofs.velomitra_plan_runs.Goals as goal
use Rattle.exports_plan.proofs.velomitra_plan_runs.Goals.{then-block_ready, else-block_ready}

pub plan_held-done-requires : goal.plan_held-done-requires
plan_held-done-requires c = c.block_ready.ensures c.if-block_ready.true

pub returns : goal.returns
unfolding plan_out
returns c =
    elim c.if-block_ready.branch [
      | then-block_ready w ↦ rw (c.code.ensures, w.done-is, w.runs-is, w.count-is, w.total-is) (rw c.model_of-m.ensures at w.plan_held-done.ensures)
      | else-block_ready w ↦ rw (c.code.ensures, w.done-is, w.runs-is, w.count-is, w.total-is) (rw c.model_of-m.ensures at w.plan_record-done.ensures)
    ]
