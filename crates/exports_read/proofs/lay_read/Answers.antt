-- `exports_read::lay_read`: list after list.
use Rattle.std.proofs.Common.{Ok}
use Rattle.readblock.specs.Read.{as_read}
use Rattle.exports_read.specs.CallLaws.{laid-is}
use Rattle.exports_read.proofs.lay_read.Goals as goal

pub returns : goal.returns
unfolding as_read
returns c = laid-is (as_read (Ok c.args.read)) (record { block = c.args.block.now; runs = c.args.runs.now; count = c.args.count.now; used = c.args.used.now }) c.lay_block.ensures c.lay_runs.ensures c.put_count.ensures c.put_count-2.ensures
