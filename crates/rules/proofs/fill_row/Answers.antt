-- `rules::fill_row`: the cells up to here are those above.
use Rattle.std.proofs.Common.{◌≡◌, ◌+◌, ◌*◌, ◌∙◌, arith, length-set}
use Rattle.base.specs.Cells.{row_small}
use Rattle.rules.specs.Turns.{above-set, above-row}
use Rattle.rules.proofs.fill_row.Goals as goal

pub loop-j-preserved : goal.loop-j-preserved
loop-j-preserved c =
    let l = c.loop-j in
    let g = c.args in
    let z : g.r * g.size + (l.j + 1) ≡ g.r * g.size + l.j + 1 = omega arith in
    (length-set l.up _ _ ∙ l.invariant.0, rw z (above-set g.size g.cells.now l.up (g.r * g.size + l.j) _ (omega (arith, row_small g.r g.size c.requires.1 c.requires.2)) l.invariant.1 (above-row g.size g.cells.now g.r l.j c.requires.0 (omega arith))))
