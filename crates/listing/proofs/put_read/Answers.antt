-- `listing::put_read`: the block's line and those of its runs.
use Rattle.base.specs.Laid.{laid_then}
use Rattle.readblock.specs.Read.{as_read}
use Rattle.listing.specs.Printed.{printed}
use Rattle.listing.proofs.put_read.Goals as goal

pub returns-in-Ok-clause-laid : goal.returns-in-Ok-clause-laid
unfolding printed as_read
returns-in-Ok-clause-laid c = rw c.in-Ok.is (laid_then c.put_block-p.ensures.laid c.put_runs.ensures.laid)
