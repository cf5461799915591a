-- `write::runs_hold`
use mathlib.Core.Path.{◌≡◌, sym, ◌∙◌}
use Prim.Native.Nat.{◌<◌}
use native.Mathlib.Omega.{arith}
use Rattle.flat.specs.Flat.{block_of}
use Rattle.flatplan.specs.Flat.{runs_of}
use Rattle.model.specs.Whole.{max_index}
use Rattle.write.specs.Laws.{fit, runs_ignored, runs-many, runs_tested}
use Rattle.write.specs.Lists.{small, cells_are}
use Rattle.write.proofs.runs_hold.Goals as goal

pub greatest_index-m-requires : goal.greatest_index-m-requires
greatest_index-m-requires c = (small c.args.block.now c.requires.together).entries

pub returns-then-m-eq0 : goal.returns-then-m-eq0
unfolding max_index block_of
returns-then-m-eq0 c = let e : max_index (block_of c.args.block.now) ≡ 0 = sym c.greatest_index-m.ensures.0 ∙ c.if-m-eq0.true in
    runs_ignored (block_of c.args.block.now) (runs_of c.args.runs.now c.args.count) c.args.count e

pub returns-then-count-gt1024 : goal.returns-then-count-gt1024
unfolding max_index block_of
returns-then-count-gt1024 c = let o : 0 < max_index (block_of c.args.block.now) = omega (arith, c.greatest_index-m.ensures.0) in
    runs-many (block_of c.args.block.now) (runs_of c.args.runs.now c.args.count) c.args.count o (omega arith)

pub area-requires : goal.area-requires
area-requires c = (small c.args.block.now c.requires.together).size

pub replays_to-requires : goal.replays_to-requires
unfolding block_of
replays_to-requires c = ((fit (block_of c.args.block.now) c.requires.together).least, (fit (block_of c.args.block.now) c.requires.together).small, c.area.ensures.0, c.area.ensures.1, omega arith, omega (arith, c.requires.block), omega arith, omega (arith, c.greatest_index-m.ensures.1), c.requires.runs (omega arith))

pub returns : goal.returns
unfolding max_index block_of
returns c = let o : 0 < max_index (block_of c.args.block.now) = omega (arith, c.greatest_index-m.ensures.0) in
    runs_tested (block_of c.args.block.now) (runs_of c.args.runs.now c.args.count) c.args.count _ o (omega arith) (rw (cells_are c.args.block.now c.area.result c.requires.block c.requires.together c.area.ensures.0 c.area.ensures.1, c.area.ensures.0, c.greatest_index-m.ensures.0) at c.replays_to.ensures)
