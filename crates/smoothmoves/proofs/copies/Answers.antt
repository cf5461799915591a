-- `smoothmoves::copies`: the tests in their order.
use mathlib.Core.Path.{sym, ◌∙◌}
use Rattle.smooth.specs.Seen.{seen}
use Rattle.smoothmoves.specs.Laws.{copies-first, copies-far, copies_cost}
use Rattle.smoothmoves.proofs.copies.Goals as goal

pub returns-then-start-s : goal.returns-then-start-s
returns-then-start-s c = let s = c.args in
    copies-first (seen s.s.now) s.indices.now s.start s.len c.if-start-s.true

pub returns-then-run_above_fits : goal.returns-then-run_above_fits
returns-then-run_above_fits c = let s = c.args in
    rw (c.run_above_cost.ensures, c.colour-from.ensures)
    (copies_cost (seen s.s.now) s.indices.now s.start s.len c.if-start-s.false (sym c.run_above_fits.ensures ∙ c.if-run_above_fits.true))

pub returns-else-run_above_fits : goal.returns-else-run_above_fits
returns-else-run_above_fits c = let s = c.args in
    c.if-run_above_fits.false ∙ copies-far (seen s.s.now) s.indices.now s.start s.len c.if-start-s.false (sym c.run_above_fits.ensures ∙ c.if-run_above_fits.false)
