-- `analysis::choose_palette`: the block's own cells, at its depth, before the predictor's entries.
use Rattle.std.proofs.Common.{◌≡◌, ◌∙◌, arith, take}
use Rattle.base.specs.Lists.{take-map}
use Rattle.entries.specs.Entries.{packed_of}
use Rattle.analyse.specs.Laws.{analysis_front}
use Rattle.blocks.specs.Blocks.{entries_of}
use Rattle.analysis.proofs.choose_palette.Goals as goal

pub returns : goal.returns
returns c = let s = c.args in
    let es = take s.p.size c.pack_predictor-packed.result in
    let are : es ≡ entries_of s.p = rw c.pack_predictor-packed.ensures (take-map packed_of s.p.size s.p.entries) in
    c.analyse.ensures
    ∙ analysis_front s.counter.now s.cells.now c.area.result c.over_eight.result s.tol 64 es (omega arith)
    ∙ rw (c.area.ensures.0, c.over_eight.ensures.0, are)
