use native.Mathlib.Omega.{arith}
use lib.ListN.{length-replicate}
use native.Mathlib.Nat.{le_refl}
use Rattle.walk.specs.PointLaws.{points_laid, trail_rising}
use Rattle.finish.specs.FoundLaws.{found-is}
use Rattle.finish.proofs.finish.Goals as goal

pub lay-count-requires : goal.lay-count-requires
lay-count-requires c = (omega arith, c.requires.1)

pub runs_of-runs-requires : goal.runs_of-runs-requires
runs_of-runs-requires c = let n = c.args.n in
    let b = c.lay-count.ensures.within in
    let q = points_laid _ _ _ _ _ _ (c.lay-count.ensures.laid n (le_refl n)) (rw length-replicate (omega arith)) (rw length-replicate (omega arith)) in
    (omega arith, rw q (trail_rising _ _ c.requires.1 n n _ (le_refl n) c.requires.0).0)

pub returns : goal.returns
returns c = let n = c.args.n in
    let b = c.lay-count.ensures.within in
    let l = c.lay-count.ensures.laid n (le_refl n) in
    let q = points_laid _ _ _ _ _ _ l (rw length-replicate (omega arith)) (rw length-replicate (omega arith)) in
    rw (c.runs_of-runs.ensures, c.chosen-total.ensures, q) (found-is _ _ _ _ _ l.count)
