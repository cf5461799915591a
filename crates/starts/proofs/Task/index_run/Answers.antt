use Rattle.std.proofs.Common.{◌∙◌, sym}
use Rattle.cells.specs.Steps.{draws_in, sent_in_lem}
use Rattle.relax.specs.JumpLaws.{tables_within}
use Rattle.relax.specs.Table.{table_of}
use Rattle.starts.specs.Starts.{index-yes, index_no}
use Rattle.starts.proofs.Task.index_run.Goals as goal

pub draw-requires : goal.draw-requires
draw-requires c = let t = c.args.self.now in
    (c.row_of.ensures.1, t.few, tables_within t.terms.size t.terms.n t.xs.now t.above.now t.lengths.now.index t.lengths.now.above t.lengths.now.next t.measured c.args.p c.requires)

pub returns-then-draws_from : goal.returns-then-draws_from
returns-then-draws_from c = let g = c.args in
    let t = g.self.now in
    let w = t.measured.above_is g.p c.requires in
    let d = sym (draws_in t.terms.size t.xs.now t.above.now g.p g.k w) ∙ sym (rw c.reference_in-f.ensures at c.draws_from.ensures) ∙ c.if-draws_from.true in
    let s = (rw c.reference_in-f.ensures at c.sent_from-sent.ensures) ∙ sent_in_lem t.terms.size t.xs.now t.above.now g.p g.k w in
    c.draw.ensures ∙ rw (c.head_bits.ensures, c.row_of.ensures.0, s)
    (index-yes t.terms.size t.terms.n t.terms.most t.xs.now t.above.now t.lengths.now.index t.lengths.now.above t.lengths.now.next t.sums.now.short t.sums.now.full t.terms.r0 t.terms.r1 t.terms.share g.p g.k g.c (table_of g.paths.now) t.measured c.requires d)

pub returns-else-draws_from : goal.returns-else-draws_from
returns-else-draws_from c = let g = c.args in
    let t = g.self.now in
    let w = t.measured.above_is g.p c.requires in
    let d = sym (draws_in t.terms.size t.xs.now t.above.now g.p g.k w) ∙ sym (rw c.reference_in-f.ensures at c.draws_from.ensures) ∙ c.if-draws_from.false in
    index_no t.terms.size t.terms.n t.terms.most t.xs.now t.sums.now.short t.sums.now.full t.terms.r0 t.terms.r1 t.terms.share g.p g.k g.c (table_of g.paths.now) d
