-- `sse::block_figure`: the values of the cells, and their error.
use Rattle.std.proofs.Common.{ℕ, replicate, ◌∙◌, arith}
use Rattle.std.proofs.lemmas.List.{length-replicate}
use Rattle.levels.specs.Laws.{scale_fit}
use Rattle.figure.specs.Laws.{in_rows}
use Rattle.sse.specs.Laws.{figure_made}
use Rattle.sse.proofs.block_figure.Goals as goal

pub values-requires : goal.values-requires
values-requires c = (rw c.scale_of-s.ensures (scale_fit c.args.c c.requires.0), c.area-n.ensures.1, c.pack_palette-palette.ensures.1)

pub returns : goal.returns
returns c = let s = c.args in
    c.error_figure.ensures
    ∙ figure_made c.scale_of-s.result s.cu (in_rows s.cu.size s.cells.now) _ c.pack_palette-palette.result (replicate 1024 0) c.pack_palette-palette.ensures.0 (omega (arith, length-replicate {A = ℕ} 1024 0, c.area-n.ensures.0, c.area-n.ensures.1)) (rw c.area-n.ensures.0 at c.values.ensures)
    ∙ rw c.scale_of-s.ensures
