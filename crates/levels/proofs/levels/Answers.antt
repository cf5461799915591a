-- `levels::levels`: one cell more, and all of them.
use Rattle.std.proofs.Common.{ℕ, get_or, sym, arith}
use Rattle.base.specs.Cells.{laid_none, laid_on_lem, laid_done}
use Rattle.levels.specs.Levels.{levels_at}
use Rattle.levels.proofs.levels.Goals as goal

pub loop-i-init : goal.loop-i-init
loop-i-init c = sym (laid_none _ _ _)

pub loop-i-preserved : goal.loop-i-preserved
loop-i-preserved c = let l = c.loop-i in
    let s = c.args in
    laid_on_lem (λ (j : ℕ). levels_at s.s s.n (get_or s.indices.now j 0) (get_or s.cells.now j 0)) s.escapes l.out l.i c.cell_levels.result l.invariant c.cell_levels.ensures

pub returns : goal.returns
returns c = laid_done _ _ _ _ _ _ c.loop-i.invariant (omega arith)
