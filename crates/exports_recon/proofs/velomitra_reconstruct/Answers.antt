-- `exports_recon::velomitra_reconstruct`: the same from the list and by way of the record.
use Rattle.std.proofs.Common.{◌∙◌}
use Rattle.exports_recon.specs.Calls.{recon_out}
use Rattle.exports_recon.proofs.velomitra_reconstruct.Goals as goal

pub returns-then-block_ready : goal.returns-then-block_ready
unfolding recon_out
returns-then-block_ready c = rw (c.code.ensures) (c.reconstruct_list.ensures ∙ rw (c.config_of-c.ensures, c.source_of-g.ensures))

pub returns-else-block_ready : goal.returns-else-block_ready
unfolding recon_out
returns-else-block_ready c = rw (c.code-else-block_ready.ensures) (c.reconstruct.ensures ∙ rw (c.config_of-c.ensures, c.source_of-g.ensures, c.block_of.ensures))
