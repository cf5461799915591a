-- `samples::fetch`: with chroma or without it, as there is any to read.
use mathlib.Core.Path.{sym, ◌∙◌}
use Prim.Native.Nat.{◌*◌}
use lib.ListN.{length}
use Rattle.model.specs.DomainLaws.{source-bounds}
use Rattle.samples.specs.Laws.{plane_bounds, has_chroma_lem, grey-cells}
use Rattle.samples.proofs.fetch.Goals as goal

pub fetch_color-requires : goal.fetch_color-requires
fetch_color-requires c = let s = c.args in
    let g = s.g in
    let p = source-bounds s.format g c.requires.0 in
    let q = plane_bounds s.format g (length s.luma.now) (length s.cb.now) (length s.cr.now) c.requires.1 in
    let h = has_chroma_lem s.format g.cw g.chh (sym c.has_chroma.ensures ∙ c.if-has_chroma.true) in
    record { size_bound = (p.small, p.wide, p.high, p.across, p.along, q.luma); le_format = (h.0, h.1, h.2, q.cb h.0, q.cr h.0) }

pub fetch_grey-requires : goal.fetch_grey-requires
fetch_grey-requires c = let s = c.args in
    let g = s.g in
    let p = source-bounds s.format g c.requires.0 in
    let q = plane_bounds s.format g (length s.luma.now) (length s.cb.now) (length s.cr.now) c.requires.1 in
    record { size_bound = (p.small, p.wide, p.high, p.across, p.along); yh_in_bounds = q.luma }

pub returns-else-has_chroma : goal.returns-else-has_chroma
returns-else-has_chroma c = let s = c.args in
    let g = s.g in
    c.fetch_grey.ensures
    ∙ grey-cells s.luma.now s.cb.now s.cr.now s.format g s.out.now (g.size * g.size) (sym c.has_chroma.ensures ∙ c.if-has_chroma.false)
