-- `read::refusal_of`: a size in the domain is at most 32.
use Rattle.std.proofs.Common.{sym}
use Rattle.read.specs.Reading.{size_most}
use Rattle.read.proofs.refusal_of.Goals as goal

pub area-requires : goal.area-requires
area-requires c = size_most c.args.size c.args.format (sym c.if-not-sizes_in.ensures)
