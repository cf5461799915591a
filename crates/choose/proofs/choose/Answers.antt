-- `choose::choose`: after k entries what is chosen and what is left to choose make the whole. Assumes nothing.
use Rattle.std.proofs.Common.{◌∙◌, arith, rules, length, take_all}
use Rattle.choose.specs.Turns.{choosing_turn, choosing_end}
use Rattle.choose.proofs.choose.Goals as goal

pub loop-k-preserved : goal.loop-k-preserved
loop-k-preserved c =
    let i = c.loop-k.invariant in
    (c.offer.ensures.kept ∙ i.0, choosing_turn i.1 c.requires.1 (omega arith) c.requires.0 (omega arith) (rw i.0 at c.offer.ensures.offered))

pub returns : goal.returns
returns c =
    let i = c.loop-k.invariant in
    let all = take_all (length c.args.entries.now) c.args.entries.now (omega arith) in
    rw i.0 (rw all at (choosing_end i.1 (omega arith) c.requires.1 c.requires.0 (omega arith) (search rules) c.rest.ensures))
