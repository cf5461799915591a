-- `smoothblock::smooth_block`: the map from the samples in scan order, then the block.
use Rattle.std.proofs.Common.{refl}
use Rattle.figure.specs.Laws.{in_rows}
use Rattle.smoothblock.specs.Laws.{answer-made}
use Rattle.smoothblock.proofs.smooth_block.Goals as goal

pub returns : goal.returns
returns c = let s = c.args in
    answer-made s.c s.budget s.cu c.with_map-out.result (in_rows s.cu.size s.cells.now) c.pack_palette-palette.result _ _ s.cu.palette_size c.smooth-changed.result c.pack_palette-palette.ensures.0 c.unroll.ensures refl c.smooth-changed.ensures c.with_map-out.ensures
