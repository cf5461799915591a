-- `exports_update::by_records`: the entry point's answer, laid where it refuses nothing.
use Rattle.std.proofs.Common.{◌≡◌, refl, Ok, Err}
use Rattle.std.proofs.lemmas.List.Edits.{sets}
use Rattle.refusal.specs.Refusal.{number_of}
use Rattle.flat.specs.Flat.{block_of, predictor_of, flat_predictor}
use Rattle.predictor.specs.Update.{update_of, as_updated}
use Rattle.calls.specs.CallLaws.{answered-refused, answered-done}
use Rattle.exports_update.specs.Calls.{update_out}
use Rattle.refusal.specs.Laws.{number_not}
use Rattle.exports_update.proofs.by_records.Goals as goal

pub returns-in-Ok : goal.returns-in-Ok
unfolding update_out
returns-in-Ok c =
    let l = c.args.predictor.now in
    let e : as_updated (predictor_of l) (Ok c.in-Ok.after) ≡ update_of (predictor_of l) (block_of c.args.block.now) c.args.limit = rw (c.predictor_of.ensures, c.block_of.ensures) at c.in-Ok.ensures in
    rw (← e) (answered-done 0 l (sets l 0 (flat_predictor c.in-Ok.after)) c.lay_predictor.new.list refl c.lay_predictor.ensures)

pub returns-in-Err : goal.returns-in-Err
unfolding update_out
returns-in-Err c =
    let l = c.args.predictor.now in
    let e : as_updated (predictor_of l) (Err c.in-Err.refusal) ≡ update_of (predictor_of l) (block_of c.args.block.now) c.args.limit = rw (c.predictor_of.ensures, c.block_of.ensures) at c.in-Err.ensures in
    rw (← e, c.from.ensures) (answered-refused (number_of c.in-Err.refusal) l (sets l 0 (flat_predictor (predictor_of l))) (number_not c.in-Err.refusal))
