-- `replay::fill_cells`: std's fill is the definition's.
use Rattle.std.proofs.Common.{◌≡◌, ◌-◌, ap, ◌∙◌, arith, replicate, length, take, drop}
use Rattle.std.proofs.lemmas.List.{length-take-le, length-drop}
use borrow.Rule.Slice.PartMut.{put_mid}
use Rattle.replay.specs.Into.{fill_is}
use Rattle.replay.proofs.fill_cells.Goals as goal

pub returns : goal.returns
returns c =
    let g = c.args in
    let n : length (take (g.to - g.from) (drop g.from g.cells.now)) ≡ g.to - g.from = length-take-le _ _ (omega (arith, length-drop g.from g.cells.now)) in
    ap (put_mid g.from (g.to - g.from) g.cells.now) (c.fill.ensures.after (λ y h. h) ∙ ap (λ m. replicate m g.v) n) ∙ fill_is g.v (g.to - g.from) g.from g.cells.now (omega arith)
