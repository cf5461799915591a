-- `planlist::plan_runs`: the plan's answer, and its runs laid.
use Rattle.std.proofs.Common.{◌∙◌, sym, ap, length}
use Rattle.std.proofs.lemmas.Result.{err_from_is_err_and}
use Rattle.plan.specs.Planned.{Plan}
use Rattle.runlist.specs.Lists.{laid_none}
use Rattle.planlist.specs.After.{count_of, runs_after}
use Rattle.planlist.proofs.AfterLaws.{count_fits}
use Rattle.planlist.proofs.plan_runs.Goals as goal

pub returns-in_err-found : goal.returns-in_err-found
unfolding runs_after count_of
returns-in_err-found c =
    let e = ap (λ (p : Plan). p.answer) c.in_err-found.ensures in
    let p = err_from_is_err_and c.from_residual.result c.from_residual.ensures.1 in
    (rw (p.1, p.2) e, rw (← e) (sym (laid_none c.args.list.now _)))

pub returns-in_default : goal.returns-in_default
unfolding runs_after count_of
returns-in_default c =
    let e = ap (λ (p : Plan). p.answer) (rw c.in_default.is at c.in_ok-found.ensures) in
    (e, rw (← e) (sym (laid_none c.args.list.now _)))

pub lay_runs-requires : goal.lay_runs-requires
unfolding count_of
lay_runs-requires c =
    let e = ap (λ (p : Plan). p.answer) (rw c.in-Some.is at c.in_ok-found.ensures) in
    rw (← e) at (count_fits c.args.cu c.args.m (length c.args.list.now))

pub returns : goal.returns
unfolding runs_after count_of
returns c =
    let e = rw c.in-Some.is at c.in_ok-found.ensures in
    (ap (λ (p : Plan). p.answer) e, c.lay_runs.ensures ∙ rw (← e))
