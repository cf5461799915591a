use Rattle.std.proofs.Common.{sym, ◌∙◌, arith}
use Rattle.model.specs.WholeLaws.{whole}
use Rattle.plan.specs.AnswerLaws.{max_index_lem, block_none, block_short, block_runs}
use Rattle.plan.proofs.plan_block.Goals as goal

pub greatest_index-most-requires : goal.greatest_index-most-requires
greatest_index-most-requires c = (whole 64 _ c.requires).entries

pub returns-then-most-eq0 : goal.returns-then-most-eq0
returns-then-most-eq0 c = let g = c.args in
    block_none g.cu g.m g.room (sym (max_index_lem g.cu _ c.greatest_index-most.ensures.0) ∙ c.if-most-eq0.true)

pub plan_cells-found-requires : goal.plan_cells-found-requires
plan_cells-found-requires c =
    ((whole 64 _ c.requires).small, omega (arith, c.from.ensures), omega (arith, c.from.ensures, c.greatest_index-most.ensures.1))

pub returns-then-room-found : goal.returns-then-room-found
returns-then-room-found c = let g = c.args in
    block_short g.cu g.m g.room _ c.from.result (c.from.ensures ∙ max_index_lem g.cu _ c.greatest_index-most.ensures.0) (λ z. c.if-most-eq0.false (sym c.from.ensures ∙ z)) c.plan_cells-found.ensures c.if-room-found.true

pub returns : goal.returns
returns c = let g = c.args in
    block_runs g.cu g.m g.room _ c.from.result (c.from.ensures ∙ max_index_lem g.cu _ c.greatest_index-most.ensures.0) (λ z. c.if-most-eq0.false (sym c.from.ensures ∙ z)) c.plan_cells-found.ensures c.if-room-found.false
