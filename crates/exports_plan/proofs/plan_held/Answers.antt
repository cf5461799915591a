-- `exports_plan::plan_held`: rates out of range, nothing to code, or the runs.
use Rattle.std.proofs.Common.{sym, ◌∙◌, ap, List, ℕ, arith}
use Rattle.std.specs.Prelude.{Float}
use Rattle.flat.specs.Flat.{block_of}
use Rattle.model.specs.WholeLaws.{whole}
use Rattle.plan.specs.AnswerLaws.{max_index_lem}
use Rattle.exports_plan.specs.Quick.{out_6, out_none}
use Rattle.exports_plan.proofs.plan_held.Goals as goal

pub returns-then-not-rates_in : goal.returns-then-not-rates_in
returns-then-not-rates_in c = let g = c.args in
    out_6 (block_of g.block.now) g.m (record { runs = g.runs.now; count = g.count.now; total = g.total.now }) c.requires.together (sym c.rates_in.ensures ∙ c.if-not-rates_in.true)

pub greatest_index-most-requires : goal.greatest_index-most-requires
unfolding block_of
greatest_index-most-requires c = rw c.from.ensures (whole 64 (block_of c.args.block.now) c.requires.together).entries

pub returns-then-most-eq0 : goal.returns-then-most-eq0
unfolding block_of
returns-then-most-eq0 c = let g = c.args in
    let k = rw c.from.ensures at c.greatest_index-most.ensures.0 in
    let z = sym (max_index_lem (block_of g.block.now) c.greatest_index-most.result k) ∙ c.if-most-eq0.true in
    ap (λ (x : ℕ × List ℕ × List Float). (x.0, record { runs = g.runs.now; count = x.1; total = x.2 })) c.lay_nothing.ensures
    ∙ out_none (block_of g.block.now) g.m (record { runs = g.runs.now; count = g.count.now; total = g.total.now }) c.requires.together (sym c.rates_in.ensures ∙ c.if-not-rates_in.false) z

pub plan_list-requires : goal.plan_list-requires
unfolding block_of
plan_list-requires c =
    let k = rw c.from.ensures at c.greatest_index-most.ensures.0 in
    (c.requires, sym c.rates_in.ensures ∙ c.if-not-rates_in.false, c.from-2.ensures ∙ max_index_lem (block_of c.args.block.now) c.greatest_index-most.result k, omega (arith, c.from-2.ensures, c.if-most-eq0.false), omega (arith, c.from-2.ensures, c.greatest_index-most.ensures.1))
