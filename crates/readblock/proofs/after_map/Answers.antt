-- `readblock::after_map`
use Rattle.std.proofs.Common.{[], ap, sym, ◌∙◌, rules, take}
use Rattle.base.specs.Lists.{padded-take}
use Rattle.syntax.specs.Block.{cells_of}
use Rattle.getpalette.specs.Read.{placed_at}
use Rattle.readblock.specs.Read.{call_of, as_read}
use Rattle.readblock.specs.Made.{map_of, cells-length, levels-refused, levels-made}
use Rattle.readblock.proofs.after_map.Goals as goal

pub returns-in_err-levels : goal.returns-in_err-levels
unfolding as_read
returns-in_err-levels c =
    let g = c.args in
    let cells = cells_of g.block.size g.n g.m (map_of g.map.now) in
    let k = cells-length g.block.size g.n g.m g.map.now.turned (take g.map.now.count g.map.now.runs) c.requires.10 in
    let t = ap (take g.n) c.cells_of-indices.ensures ∙ padded-take 1024 0 cells g.n k in
    let f = rw t at (sym c.in_err-levels.ensures.value) in
    let z = levels-refused (call_of g.block []) g.count (placed_at g.palette.now 0) (map_of g.map.now) g.reader.now.list.now g.reader.now.at c.requires.11 cells _ _ (rw (← c.requires.1, ← c.requires.3)) f in
    search rules

pub returns : goal.returns
returns c =
    let g = c.args in
    let cells = cells_of g.block.size g.n g.m (map_of g.map.now) in
    let k = cells-length g.block.size g.n g.m g.map.now.turned (take g.map.now.count g.map.now.runs) c.requires.10 in
    let t = ap (take g.n) c.cells_of-indices.ensures ∙ padded-take 1024 0 cells g.n k in
    let f = rw (t, k) at (sym c.in_ok-levels.ensures.value) in
    c.made.ensures ∙ levels-made (call_of g.block []) g.count (placed_at g.palette.now 0) (map_of g.map.now) g.reader.now.list.now g.reader.now.at c.requires.11 cells _ _ _ _ _ _ _ _ (rw (← c.requires.1, ← c.requires.3)) f c.cells_of-indices.ensures c.levels_of-escapes.ensures c.requires.9.0 c.requires.9.1
