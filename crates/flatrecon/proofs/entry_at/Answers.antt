-- `flatrecon::entry_at`
use Rattle.entries.specs.Entries.{packed_of}
use Rattle.flat.specs.Flat.{color_at}
use Rattle.flatrecon.proofs.entry_at.Goals as goal

pub returns : goal.returns
unfolding packed_of color_at
returns c = c.pack.ensures
