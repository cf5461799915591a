-- `exports_plan::plan_record`: a refusal leaves all as it was.
use Rattle.std.proofs.lemmas.Result.{err_from_is_err_and}
use Rattle.exports_plan.specs.Calls.{plan_laid}
use Rattle.exports_plan.proofs.plan_record.Goals as goal

pub returns-in_err-plan : goal.returns-in_err-plan
unfolding plan_laid
returns-in_err-plan c =
    let p = err_from_is_err_and c.from_residual.result c.from_residual.ensures.1 in
    let e = rw c.block_of-cu.ensures at c.in_err-plan.ensures in
    rw (p.1, p.2, ← e)
