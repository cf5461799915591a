-- `smoothmoves::joins`: the tests in their order.
use mathlib.Core.Path.{sym, ◌∙◌}
use native.Mathlib.Omega.{arith}
use Rattle.smooth.specs.Seen.{seen}
use Rattle.smoothmoves.specs.Laws.{joins-first, joins_escape, joins-far, joins_cost}
use Rattle.smoothmoves.proofs.joins.Goals as goal

pub returns-then-start-eq0 : goal.returns-then-start-eq0
returns-then-start-eq0 c = let s = c.args in
    joins-first (seen s.s.now) s.indices.now s.start s.len c.if-start-eq0.true

pub returns-then-left-s : goal.returns-then-left-s
returns-then-left-s c = let s = c.args in
    joins_escape (seen s.s.now) s.indices.now s.start s.len (omega (arith, c.if-start-eq0.false)) c.if-left-s.true

pub returns-then-run_fits : goal.returns-then-run_fits
returns-then-run_fits c = let s = c.args in
    rw (c.run_cost.ensures, c.colour-to.ensures, c.colour-from.ensures)
    (joins_cost (seen s.s.now) s.indices.now s.start s.len (omega (arith, c.if-start-eq0.false)) c.if-left-s.false (rw c.colour-to.ensures at (sym c.run_fits.ensures ∙ c.if-run_fits.true)))

pub returns-else-run_fits : goal.returns-else-run_fits
returns-else-run_fits c = let s = c.args in
    c.if-run_fits.false ∙ joins-far (seen s.s.now) s.indices.now s.start s.len (omega (arith, c.if-start-eq0.false)) c.if-left-s.false (rw c.colour-to.ensures at (sym c.run_fits.ensures ∙ c.if-run_fits.false))
