-- `flatready::cells_ready`. The loop's invariant: the cells of the bands passed hold.
use Rattle.std.proofs.Common.{◌≡◌, ℕ, ◌*◌, ◌<◌, true}
use Rattle.flat.specs.Flat.{block_of}
use Rattle.model.specs.Whole.{cell_holds}
use Rattle.flatready.proofs.cells_ready.Given as goal

abbrev pub invariant-loop-g : goal.invariant-loop-g
invariant-loop-g l = (k : ℕ) → k < 64 * l.g → cell_holds (block_of l.list) k ≡ true
