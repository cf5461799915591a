use mathlib.Core.Path.{◌≡◌, ◌∙◌}
use native.Mathlib.Omega.{arith}
use Rattle.measure.specs.Steps.{first-row}
use Rattle.measure.proofs.above_row.Goals as goal

pub returns-then-row-eq0 : goal.returns-then-row-eq0
returns-then-row-eq0 c = c.first_row.ensures ∙ first-row c.args.size c.args.row c.args.xs.now c.args.above.now c.if-row-eq0.true

pub later_row-requires : goal.later_row-requires
later_row-requires c = let h : c.args.row ≡ 0 → ⊥ = c.if-row-eq0.false in (omega arith, omega arith, omega arith)

pub returns-else-row-eq0 : goal.returns-else-row-eq0
returns-else-row-eq0 c = c.later_row.ensures
