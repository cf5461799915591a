-- `flatplan::runs_of`. The loop's invariant: the places passed are laid.
use Rattle.std.proofs.Common.{sym, ℕ, ◌*◌, replicate, arith}
use Rattle.base.specs.Cells.{laid_none, laid_on_lem, laid_done}
use Rattle.flatplan.specs.Flat.{run_at, no_run, runs_of}
use Rattle.flatplan.proofs.runs_of.Goals as goal

pub loop-i-init : goal.loop-i-init
loop-i-init c = sym (laid_none _ _ _)

pub loop-i-preserved : goal.loop-i-preserved
loop-i-preserved c = laid_on_lem (λ (j : ℕ). run_at c.args.list.now (4 * j)) (replicate 1024 no_run) c.loop-i.out c.loop-i.i _ c.loop-i.invariant c.run_at.ensures

pub returns : goal.returns
unfolding runs_of
returns c = laid_done _ _ _ _ _ _ c.loop-i.invariant (omega arith)
