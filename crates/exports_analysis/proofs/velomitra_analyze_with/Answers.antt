-- `exports_analysis::velomitra_analyze_with`: refusals 1 to 4, then the colours fetched.
use Rattle.std.proofs.Common.{sym, ◌∙◌, arith}
use Rattle.model.specs.ConfigLaws.{config_bounds}
use Rattle.model.specs.DomainLaws.{source-bounds}
use Rattle.source.specs.Laws.{fetched}
use Rattle.refusal.specs.Laws.{number_some}
use Rattle.flatchoose.specs.Choose.{Lent}
use Rattle.exports_analysis.proofs.CallLaws.{source-out, cells_out_lem}
use Rattle.exports_analysis.proofs.velomitra_analyze_with.Goals as goal

pub returns-in-Err : goal.returns-in-Err
returns-in-Err c = let s = c.args in
    let l : Lent = record { keys = s.keys.now; entry = s.entry.now; stamp = s.stamp.now; block = s.block.now } in
    rw c.from.ensures
    (source-out s.luma.now s.cb.now s.cr.now s.config.now s.source.now s.predictor.now l c.config_of-c.result c.source_of-g.result c.config_of-c.ensures c.source_of-g.ensures s.tol _ c.in-Err.ensures.0 (λ z. omega (arith, z, number_some c.in-Err.refusal)))

pub analyze_cells-requires : goal.analyze_cells-requires
analyze_cells-requires c = let s = c.args in
    let f = fetched s.luma.now s.cb.now s.cr.now c.config_of-c.result c.source_of-g.result (sym c.in_default.ensures.0) in
    ((source-bounds c.config_of-c.result.chroma_idc c.source_of-g.result f.readable.source).small, (config_bounds c.config_of-c.result f.readable.config).luma)

pub returns : goal.returns
returns c = let s = c.args in
    let l : Lent = record { keys = s.keys.now; entry = s.entry.now; stamp = s.stamp.now; block = s.block.now } in
    rw c.code.ensures
    (c.analyze_cells.ensures ∙ cells_out_lem s.luma.now s.cb.now s.cr.now s.config.now s.source.now s.predictor.now l c.config_of-c.result c.source_of-g.result c.config_of-c.ensures c.source_of-g.ensures _ (sym c.in_default.ensures.0) c.in_default.ensures.1 s.tol)
