-- `exports_block::velomitra_assign_indices`: in a whole list; else the entry point's answer, laid where it refuses nothing.
use Rattle.std.proofs.Common.{◌≡◌, Ok, Err, ◌∙◌, arith}
use Rattle.refusal.specs.Refusal.{number_of}
use Rattle.refusal.specs.Laws.{number_some}
use Rattle.assigning.specs.Assigning.{as_assigned, assign_of}
use Rattle.flat.specs.Flat.{block_of, config_of, source_of}
use Rattle.calls.specs.CallLaws.{answered-refused}
use Rattle.exports_block.specs.Calls.{assign_out}
use Rattle.exports_block.proofs.velomitra_assign_indices.Goals as goal

pub returns-then-block-ge4432 : goal.returns-then-block-ge4432
unfolding assign_out
returns-then-block-ge4432 c = rw c.code.ensures (c.assign_list.ensures ∙ rw (c.config_of-c.ensures, c.source_of-g.ensures, c.block_of-cu.ensures))

pub returns-in-Ok : goal.returns-in-Ok
unfolding assign_out
returns-in-Ok c = let a = c.args in
    let e : as_assigned c.block_of-cu.result (Ok c.in-Ok.after) ≡ assign_of a.luma.now a.cb.now a.cr.now (config_of a.config.now) (source_of a.source.now) a.transpose (block_of a.block.now) = c.in-Ok.ensures ∙ rw (c.config_of-c.ensures, c.source_of-g.ensures, c.block_of-cu.ensures) in
    rw (← e, c.lay_block.ensures)

pub returns-in-Err : goal.returns-in-Err
unfolding assign_out
returns-in-Err c = let a = c.args in
    let r = c.in-Err.refusal in
    let e : as_assigned c.block_of-cu.result (Err r) ≡ assign_of a.luma.now a.cb.now a.cr.now (config_of a.config.now) (source_of a.source.now) a.transpose (block_of a.block.now) = c.in-Err.ensures ∙ rw (c.config_of-c.ensures, c.source_of-g.ensures, c.block_of-cu.ensures) in
    let o = number_some r in
    rw (c.from.ensures, ← e) (answered-refused (number_of r) _ _ (λ z. omega arith))
