-- `compare::differing_cells`: the cells passed are counted.
use Rattle.std.proofs.Common.{◌≡◌, refl, ℕ, Bool, true, false, ◌≤◌, sym, arith}
use Rattle.std.proofs.Math.Bool.{not}
use mir.Val.{bool_byte}
use Rattle.base.specs.Pick.{pick}
use Rattle.base.specs.Sums.{sum_to-none, sum_to-next}
use Rattle.compare.specs.Compare.{same_cell}
use Rattle.compare.proofs.differing_cells.Goals as goal

unlike : (b : Bool) → bool_byte (not b) ≡ pick b 0 1
unlike true = refl
unlike false = refl

unlike-le : (b : Bool) → bool_byte (not b) ≤ 1
unlike-le true = omega arith
unlike-le false = omega arith

pub loop-i-init : goal.loop-i-init
loop-i-init c = (omega arith, sym (sum_to-none _))

pub loop-i-preserved : goal.loop-i-preserved
loop-i-preserved c =
    let l = c.loop-i in
    let s = c.args in
    (omega (arith, unlike-le c.same_cell.result), rw (l.invariant.1, unlike, c.same_cell.ensures) (sym (sum_to-next (λ (j : ℕ). pick (same_cell s.a.now s.b.now s.size s.format s.turned j) 0 1) l.i)))
