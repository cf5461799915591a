-- `smoothblock::with_map`: the error figure anew, or as it was.
use Rattle.figure.specs.Laws.{in_rows}
use Rattle.smoothblock.specs.Laws.{map-moved, map-kept}
use Rattle.smoothblock.proofs.with_map.Goals as goal

pub returns-then-changed : goal.returns-then-changed
returns-then-changed c = let s = c.args in map-moved s.c s.cu (in_rows s.cu.size s.cells.now) s.indices s.changed c.block_figure.result c.if-changed.true c.block_figure.ensures

pub returns-else-changed : goal.returns-else-changed
returns-else-changed c = let s = c.args in map-kept s.c s.cu (in_rows s.cu.size s.cells.now) s.indices s.changed c.if-changed.false
