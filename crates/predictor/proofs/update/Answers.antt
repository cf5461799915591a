-- `predictor::update`: refusal by refusal, then the predictor renewed.
use Rattle.std.proofs.Common.{◌∙◌, sym, arith}
use Rattle.predictor.specs.UpdateLaws.{update_two, update_five, update_seven, update_done, update_fits}
use Rattle.predictor.proofs.update.Goals as goal

pub returns-then-not-block_size_in : goal.returns-then-not-block_size_in
returns-then-not-block_size_in c = update_two c.args.p c.args.cu c.args.limit (sym c.block_size_in.ensures ∙ c.if-not-block_size_in.true)

pub returns-then-not-predictor_in-limit : goal.returns-then-not-predictor_in-limit
returns-then-not-predictor_in-limit c =
    let a = c.args in
    update_five a.p a.cu a.limit c.predictor_in.result c.predictor_in.ensures (sym c.block_size_in.ensures ∙ c.if-not-block_size_in.false) c.if-not-predictor_in-limit.true

pub returns-then-not-holds_together : goal.returns-then-not-holds_together
returns-then-not-holds_together c =
    let a = c.args in
    update_seven a.p a.cu a.limit c.predictor_in.result c.predictor_in.ensures (sym c.block_size_in.ensures ∙ c.if-not-block_size_in.false) c.if-not-predictor_in-limit.false (sym c.holds_together.ensures ∙ c.if-not-holds_together.true)

pub renewed-requires : goal.renewed-requires
renewed-requires c =
    let a = c.args in
    let f = update_fits a.p a.cu a.limit c.predictor_in.result c.predictor_in.ensures c.if-not-predictor_in-limit.false (sym c.holds_together.ensures ∙ c.if-not-holds_together.false) in
    (f.0, f.1, f.2, omega arith)

pub returns : goal.returns
returns c =
    let a = c.args in
    update_done a.p a.cu a.limit c.predictor_in.result c.predictor_in.ensures _ (sym c.block_size_in.ensures ∙ c.if-not-block_size_in.false) c.if-not-predictor_in-limit.false (sym c.holds_together.ensures ∙ c.if-not-holds_together.false) c.renewed.ensures
