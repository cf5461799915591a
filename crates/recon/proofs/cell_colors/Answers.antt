-- `recon::cell_colors`: the entries of the first cells, or with escapes among them what they decode to.
use Rattle.std.proofs.Common.{sym, ◌∙◌, arith}
use Rattle.levels.specs.Laws.{scale_fit}
use Rattle.recon.specs.Recon.{cell_color}
use Rattle.recon.proofs.Painted.{painted_first}
use Rattle.recon.proofs.cell_colors.Goals as goal

pub returns-then-none_escape : goal.returns-then-none_escape
returns-then-none_escape c =
    c.paint.ensures ∙ painted_first c.args.c c.args.cu _ _ c.args.m c.pack_palette-palette.ensures.0 (omega arith) (sym c.none_escape.ensures ∙ c.if-none_escape.true)

pub values-requires : goal.values-requires
values-requires c = (rw c.scale_of-s.ensures (scale_fit c.args.c c.requires.0), c.requires.1, c.pack_palette-palette.ensures.1)

pub returns : goal.returns
unfolding cell_color
returns c = c.values.ensures ∙ rw (c.scale_of-s.ensures, c.pack_palette-palette.ensures.0)
