-- `flatready::cells_ready`: the cells of one band more.
use Rattle.std.proofs.Common.{arith}
use Rattle.base.specs.Tests.{at_up_to}
use Rattle.flat.specs.Flat.{block_of}
use Rattle.model.specs.Whole.{cell_holds}
use Rattle.flatready.specs.ReadyLaws.{band_next}
use Rattle.flatready.proofs.cells_ready.Goals as goal

pub loop-g-init : goal.loop-g-init
loop-g-init c = λ k h. absurd (omega arith)

pub loop-g-preserved : goal.loop-g-preserved
loop-g-preserved c = band_next (cell_holds (block_of c.args.list.now)) c.loop-g.g c.loop-g.invariant (c.band_ready.ensures c.if-not-band_ready.false)

pub returns : goal.returns
returns c = λ e. at_up_to (cell_holds (block_of c.args.list.now)) c.args.cells (λ i h. c.loop-g.invariant i (omega arith))
