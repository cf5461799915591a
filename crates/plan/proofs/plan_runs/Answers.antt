use Rattle.std.proofs.Common.{sym, ◌∙◌}
use Rattle.plan.specs.AnswerLaws.{refused_2, refused_6, refused_7, block_is}
use Rattle.plan.proofs.plan_runs.Goals as goal

pub returns-then-not-block_size_in : goal.returns-then-not-block_size_in
returns-then-not-block_size_in c = let g = c.args in
    refused_2 g.cu g.m g.room (sym c.block_size_in.ensures ∙ c.if-not-block_size_in.true)

pub returns-then-not-rates_in : goal.returns-then-not-rates_in
returns-then-not-rates_in c = let g = c.args in
    refused_6 g.cu g.m g.room (sym c.block_size_in.ensures ∙ c.if-not-block_size_in.false) (sym c.rates_in.ensures ∙ c.if-not-rates_in.true)

pub returns-then-not-holds_together : goal.returns-then-not-holds_together
returns-then-not-holds_together c = let g = c.args in
    refused_7 g.cu g.m g.room (sym c.block_size_in.ensures ∙ c.if-not-block_size_in.false) (sym c.rates_in.ensures ∙ c.if-not-rates_in.false) (sym c.holds_together.ensures ∙ c.if-not-holds_together.true)

pub returns : goal.returns
returns c = let g = c.args in
    c.plan_block.ensures
    ∙ block_is g.cu g.m g.room (sym c.block_size_in.ensures ∙ c.if-not-block_size_in.false) (sym c.rates_in.ensures ∙ c.if-not-rates_in.false) (sym c.holds_together.ensures ∙ c.if-not-holds_together.false)
