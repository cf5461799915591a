-- `whole::holds_together`: the clauses on numbers, then those on lists.
use Rattle.std.proofs.Common.{arith}
use Rattle.whole.specs.Parts.{holds_not, holds-rest, holds-bounds}
use Rattle.whole.proofs.holds_together.Goals as goal

pub shared_ref_as_front-flags : goal.shared_ref_as_front-flags
shared_ref_as_front-flags c = omega (arith, holds-bounds c.args.limit c.args.cu c.frame_holds.result c.frame_holds.ensures c.if-frame_holds-cu.true)

pub palette_holds-requires : goal.palette_holds-requires
palette_holds-requires c = omega (arith, holds-bounds c.args.limit c.args.cu c.frame_holds.result c.frame_holds.ensures c.if-frame_holds-cu.true)

pub cells_hold-requires : goal.cells_hold-requires
cells_hold-requires c = omega (arith, holds-bounds c.args.limit c.args.cu c.frame_holds.result c.frame_holds.ensures c.if-frame_holds-cu.true)

pub returns-then-frame_holds-cu : goal.returns-then-frame_holds-cu
returns-then-frame_holds-cu c = holds-rest c.args.limit c.args.cu c.frame_holds.result c.frame_holds.ensures _ _ _ _ c.if-frame_holds-cu.true
    c.counts_hold.ensures c.palette_holds.ensures c.cells_hold.ensures c.empty_holds.ensures

pub returns-else-frame_holds-cu : goal.returns-else-frame_holds-cu
returns-else-frame_holds-cu c = holds_not c.args.limit c.args.cu c.frame_holds.result c.frame_holds.ensures c.if-frame_holds-cu.false
