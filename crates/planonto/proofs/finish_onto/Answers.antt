use mathlib.Core.Path.{sym, ◌∙◌}
use mathlib.Core.Bool.{false}
use native.Mathlib.Omega.{arith}
use lib.ListN.{length-replicate}
use native.Mathlib.Nat.{le_refl}
use Rattle.walk.specs.PointLaws.{points_laid, trail_rising}
use Rattle.finish.specs.FoundLaws.{length_runs}
use Rattle.planonto.proofs.finish_onto.Goals as goal

pub lay-count-requires : goal.lay-count-requires
lay-count-requires c = (c.requires.0, c.requires.1)

pub put_fitting-requires : goal.put_fitting-requires
put_fitting-requires c = let n = c.args.n in
    let b = c.lay-count.ensures.within in
    let q = points_laid _ _ _ _ _ _ (c.lay-count.ensures.laid n (le_refl n)) (rw length-replicate (omega arith)) (rw length-replicate (omega arith)) in
    (omega arith, rw q (trail_rising _ _ c.requires.1 n n _ (le_refl n) c.requires.0).0)

pub returns : goal.returns
returns c = let n = c.args.n in
    let b = c.lay-count.ensures.within in
    let l = c.lay-count.ensures.laid n (le_refl n) in
    let q = points_laid _ _ _ _ _ _ l (rw length-replicate (omega arith)) (rw length-replicate (omega arith)) in
    let s = l.count ∙ sym (length_runs _ _ 0 false _) in
    record { number = s; few = omega arith; sum = c.chosen-total.ensures; list = rw (← s, ← q) c.put_fitting.ensures }
