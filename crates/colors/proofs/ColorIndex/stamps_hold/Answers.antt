-- `ColorIndex::stamps_hold`: the stamps passed hold, and what is left makes the whole. Assumes nothing.
use Rattle.std.proofs.Common.{◌∙◌, arith}
use Rattle.colors.specs.Laws.{above-next, above-end}
use Rattle.colors.proofs.ColorIndex.stamps_hold.Goals as goal

pub loop-stamp-preserved : goal.loop-stamp-preserved
loop-stamp-preserved c = let l = c.loop-stamp in
    above-next _ _ l.stamp-index l.ok (omega arith) ∙ l.invariant

pub returns : goal.returns
returns c = let l = c.loop-stamp in
    above-end _ _ l.stamp-index l.ok (omega arith) ∙ l.invariant
