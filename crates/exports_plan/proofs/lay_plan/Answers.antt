-- `exports_plan::lay_plan`: nothing, or runs.
use Rattle.std.proofs.Common.{ap, List, ℕ}
use Rattle.std.specs.Prelude.{Float}
use Rattle.exports_plan.specs.Calls.{plan_laid}
use Rattle.exports_plan.proofs.lay_plan.Goals as goal

pub returns-in-None : goal.returns-in-None
unfolding plan_laid
returns-in-None c = rw c.in-None.is (ap (λ (z : ℕ × List ℕ × List Float). (z.0, record { runs = c.args.runs.now; count = z.1; total = z.2 })) c.lay_nothing.ensures)

pub returns-in-Some : goal.returns-in-Some
unfolding plan_laid
returns-in-Some c = rw c.in-Some.is c.lay_planned.ensures
