-- `paint::paint`: the four steps make the palette. Assumes nothing.
use Rattle.std.proofs.Common.{◌∙◌, ap}
use Rattle.choose.specs.Choose.{painting_of}
use Rattle.paint.specs.Laws.{painted_all}
use Rattle.paint.proofs.paint.Goals as goal

pub returns : goal.returns
returns c =
    let s = c.args in
    c.choose.ensures ∙ ap painting_of (painted_all s.tol s.limit s.entries.now s.met.now s.counts.now _ c.gather-colours.result c.requires.met_len.1 c.sort-order.ensures c.gather-colours.ensures c.representatives-found.result c.representatives-found.ensures)
