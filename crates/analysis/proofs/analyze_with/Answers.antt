-- `analysis::analyze_with`: refusals 1 to 4, then the colours fetched.
use Rattle.std.proofs.Common.{sym, ◌∙◌}
use Rattle.std.proofs.lemmas.Result.{err_from_is_err_and}
use Rattle.model.specs.ConfigLaws.{config_bounds}
use Rattle.model.specs.DomainLaws.{source-bounds}
use Rattle.source.specs.Laws.{fetched}
use Rattle.refusal.specs.Laws.{number_some}
use Rattle.analysis.specs.Laws.{with_source, with_cells_lem}
use Rattle.analysis.proofs.analyze_with.Goals as goal

pub returns-in_err-fetch_block : goal.returns-in_err-fetch_block
returns-in_err-fetch_block c = let s = c.args in
    let p = err_from_is_err_and c.from_residual.result c.from_residual.ensures.1 in
    rw (p.1, p.2) (with_source s.luma.now s.cb.now s.cr.now s.c s.g s.p s.counter.now s.tol _ c.in_err-fetch_block.ensures.0 (number_some _))

pub analyze_cells-requires : goal.analyze_cells-requires
analyze_cells-requires c = let s = c.args in
    let f = fetched s.luma.now s.cb.now s.cr.now s.c s.g (sym c.in_ok-fetch_block.ensures.0) in
    ((source-bounds s.c.chroma_idc s.g f.readable.source).small, (config_bounds s.c f.readable.config).luma)

pub returns : goal.returns
returns c = let s = c.args in
    c.analyze_cells.ensures ∙ with_cells_lem s.luma.now s.cb.now s.cr.now s.c s.g s.p s.counter.now _ (sym c.in_ok-fetch_block.ensures.0) c.in_ok-fetch_block.ensures.1 s.tol
