-- `whole::assignable`: the clauses on numbers, then the palette.
use Rattle.std.proofs.Common.{arith}
use Rattle.whole.specs.Parts.{assignable_not, assignable-rest, assignable_bound}
use Rattle.whole.proofs.assignable.Goals as goal

pub palette_holds-requires : goal.palette_holds-requires
palette_holds-requires c = omega (arith, assignable_bound c.args.limit c.args.cu c.frame_holds.result c.frame_holds.ensures c.if-frame_holds-cu.true)

pub returns-then-frame_holds-cu : goal.returns-then-frame_holds-cu
returns-then-frame_holds-cu c = assignable-rest c.args.limit c.args.cu c.frame_holds.result c.frame_holds.ensures _ c.if-frame_holds-cu.true c.palette_holds.ensures

pub returns-else-frame_holds-cu : goal.returns-else-frame_holds-cu
returns-else-frame_holds-cu c = assignable_not c.args.limit c.args.cu c.frame_holds.result c.frame_holds.ensures c.if-frame_holds-cu.false
