-- `flatanalyse::analyze_cells`: 5, then 7, then the colours.
use Rattle.std.proofs.Common.{◌∙◌, ap}
use Rattle.std.proofs.lemmas.Result.{err_from_is_err_and}
use Rattle.model.specs.declared.PalettePredictor.{PalettePredictor}
use Rattle.refusal.specs.Laws.{number_some}
use Rattle.analysis.specs.Laws.{lent_passed, lent_bounds}
use Rattle.flatchoose.specs.Choose.{Lent, counter_lent}
use Rattle.flatanalyse.specs.Cells.{cells_out}
use Rattle.flatanalyse.specs.CellsLaws.{checked_out, passed_out}
use Rattle.flatanalyse.proofs.analyze_cells.Goals as goal

pub returns-in_err-check_lent : goal.returns-in_err-check_lent
returns-in_err-check_lent c = let s = c.args in
    let l : Lent = record { keys = s.keys.now; entry = s.entry.now; stamp = s.stamp.now; block = s.block.now } in
    let p = err_from_is_err_and c.from_residual.result c.from_residual.ensures.1 in
    rw (p.1, p.2)
    (checked_out s.cells.now s.c s.size c.predictor_of-p.result s.tol l _ (rw c.read_counter.ensures at c.in_err-check_lent.ensures) (number_some _)
    ∙ ap (λ (z : PalettePredictor). cells_out s.cells.now s.c s.size z s.tol l) c.predictor_of-p.ensures)

pub choose_block-answer-requires : goal.choose_block-answer-requires
choose_block-answer-requires c = let s = c.args in
    let b = lent_bounds s.c c.predictor_of-p.result c.read_counter.new.counter (lent_passed s.cells.now s.c s.size c.predictor_of-p.result c.read_counter.new.counter s.tol c.in_ok-check_lent.ensures).0 in
    (c.requires.0, c.requires.1, b.0, b.1)

pub returns : goal.returns
returns c = let s = c.args in
    let l : Lent = record { keys = s.keys.now; entry = s.entry.now; stamp = s.stamp.now; block = s.block.now } in
    let w = lent_passed s.cells.now s.c s.size c.predictor_of-p.result (counter_lent l) s.tol (rw c.read_counter.ensures at c.in_ok-check_lent.ensures) in
    passed_out s.cells.now s.c s.size c.predictor_of-p.result s.tol l w.0 w.1 _ _ _ _ _ _ (rw c.read_counter.ensures at c.choose_block-answer.ensures) c.lay_counter.ensures.0 c.lay_counter.ensures.1 c.lay_counter.ensures.2
    ∙ ap (λ (z : PalettePredictor). cells_out s.cells.now s.c s.size z s.tol l) c.predictor_of-p.ensures
