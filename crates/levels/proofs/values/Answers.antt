-- `levels::values`: one cell more, and all of them.
use Rattle.std.proofs.Common.{ℕ, get_or, sym, arith}
use Rattle.base.specs.Cells.{laid_none, laid_on_lem, laid_done}
use Rattle.model.specs.Whole.{no_levels}
use Rattle.levels.specs.Levels.{value_at}
use Rattle.levels.proofs.values.Goals as goal

pub loop-i-init : goal.loop-i-init
loop-i-init c = sym (laid_none _ _ _)

pub loop-i-preserved : goal.loop-i-preserved
loop-i-preserved c = let l = c.loop-i in
    let s = c.args in
    laid_on_lem (λ (j : ℕ). value_at s.s s.palette.now s.n (get_or s.indices.now j 0) (get_or s.escapes j no_levels)) s.out.now l.out l.i c.cell_value.result l.invariant c.cell_value.ensures

pub returns : goal.returns
returns c = laid_done _ _ _ _ _ _ c.loop-i.invariant (omega arith)
