-- `analysis::analyze_cells`: 5, then 7, then the colours.
use Rattle.std.proofs.Common.{◌∙◌}
use Rattle.std.proofs.lemmas.Result.{err_from_is_err_and}
use Rattle.refusal.specs.Laws.{number_some}
use Rattle.analysis.specs.Laws.{lent_refused, lent_passed, lent-taken, lent_bounds}
use Rattle.analysis.proofs.analyze_cells.Goals as goal

pub returns-in_err-check_lent : goal.returns-in_err-check_lent
returns-in_err-check_lent c = let s = c.args in
    let p = err_from_is_err_and c.from_residual.result c.from_residual.ensures.1 in
    rw (p.1, p.2) (lent_refused s.cells.now s.c s.size s.p s.counter.now s.tol _ c.in_err-check_lent.ensures (number_some _))

pub choose_block-requires : goal.choose_block-requires
choose_block-requires c = let s = c.args in
    let b = lent_bounds s.c s.p s.counter.now (lent_passed s.cells.now s.c s.size s.p s.counter.now s.tol c.in_ok-check_lent.ensures).0 in
    (c.requires.0, c.requires.1, b.0, b.1)

pub returns : goal.returns
returns c = let s = c.args in
    let w = lent_passed s.cells.now s.c s.size s.p s.counter.now s.tol c.in_ok-check_lent.ensures in
    c.choose_block.ensures ∙ lent-taken s.cells.now s.c s.size s.p s.counter.now s.tol w.0 w.1
