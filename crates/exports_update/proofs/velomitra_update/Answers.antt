-- `exports_update::velomitra_update`: the renewed predictor where the call is in order, else the answer by way of the records.
use Rattle.exports_update.specs.CallLaws.{update_quick}
use Rattle.exports_update.proofs.velomitra_update.Goals as goal

pub renew-requires : goal.renew-requires
renew-requires c = c.ready.ensures c.if-ready.true

pub returns-then-ready : goal.returns-then-ready
returns-then-ready c = update_quick c.args.predictor.now c.args.block.now c.args.limit (c.ready.ensures c.if-ready.true) _ c.renew.ensures
