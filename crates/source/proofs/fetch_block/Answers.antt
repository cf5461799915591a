-- `source::fetch_block`: the tests that look at no sample, then the samples.
use Rattle.std.proofs.Common.{◌*◌, ◌≤◌, length, sym, ◌∙◌, arith}
use Rattle.std.proofs.Math.Nat.{mul-le-mul}
use Rattle.std.proofs.lemmas.Result.{err_from_is_err_and}
use Rattle.model.specs.ConfigLaws.{config_bounds}
use Rattle.model.specs.DomainLaws.{source-bounds}
use Rattle.refusal.specs.Refusal.{number_of}
use Rattle.source.specs.Laws.{readable, early, late, cells_stay, cells-laid, samples_test}
use Rattle.refusal.specs.Laws.{number_some}
use Rattle.source.proofs.fetch_block.Goals as goal

pub returns-in_err-check_planes : goal.returns-in_err-check_planes
returns-in_err-check_planes c = let p = err_from_is_err_and c.from_residual.result c.from_residual.ensures.1 in
    let s = c.args in
    let r = c.in_err-check_planes.field-0.0 in
    rw (p.1, p.2) (early s.luma.now s.cb.now s.cr.now s.c s.g (number_of r) c.in_err-check_planes.ensures (number_some r), cells_stay s.luma.now s.cb.now s.cr.now s.c s.g (number_of r) c.in_err-check_planes.ensures (number_some r) s.cells.now)

pub fetch-requires : goal.fetch-requires
fetch-requires c = let s = c.args in
    let r = readable s.c s.g (length s.luma.now) (length s.cb.now) (length s.cr.now) (sym c.in_ok-check_planes.ensures) in
    (r.source, r.planes)

pub samples_in-requires : goal.samples_in-requires
samples_in-requires c = let s = c.args in
    let r = readable s.c s.g (length s.luma.now) (length s.cb.now) (length s.cr.now) (sym c.in_ok-check_planes.ensures) in
    let b = config_bounds s.c r.config in
    ((source-bounds s.c.chroma_idc s.g r.source).small, b.luma, b.chroma)

pub returns-then-samples_in : goal.returns-then-samples_in
returns-then-samples_in c = let s = c.args in
    let e = sym c.in_ok-check_planes.ensures in
    let r = readable s.c s.g (length s.luma.now) (length s.cb.now) (length s.cr.now) e in
    let b = source-bounds s.c.chroma_idc s.g r.source in
    let q : s.g.size * s.g.size ≤ 32 * 32 = mul-le-mul b.small b.small in
    let t = samples_test s.luma.now s.cb.now s.cr.now s.c s.g c.samples_in.result s.cells.now _ (omega (arith, c.requires)) c.fetch.ensures c.samples_in.ensures in
    (late s.luma.now s.cb.now s.cr.now s.c s.g _ e (t ∙ c.if-samples_in.true), c.fetch.ensures ∙ cells-laid s.luma.now s.cb.now s.cr.now s.c s.g e s.cells.now)

pub returns-else-samples_in : goal.returns-else-samples_in
returns-else-samples_in c = let s = c.args in
    let e = sym c.in_ok-check_planes.ensures in
    let r = readable s.c s.g (length s.luma.now) (length s.cb.now) (length s.cr.now) e in
    let b = source-bounds s.c.chroma_idc s.g r.source in
    let q : s.g.size * s.g.size ≤ 32 * 32 = mul-le-mul b.small b.small in
    let t = samples_test s.luma.now s.cb.now s.cr.now s.c s.g c.samples_in.result s.cells.now _ (omega (arith, c.requires)) c.fetch.ensures c.samples_in.ensures in
    (late s.luma.now s.cb.now s.cr.now s.c s.g _ e (t ∙ c.if-samples_in.false), c.fetch.ensures ∙ cells-laid s.luma.now s.cb.now s.cr.now s.c s.g e s.cells.now)
