-- `walk::runs_of`. The loop's invariant: the runs between the points that are left, laid from i on, make the whole.
use mathlib.Core.Path.{sym, ◌∙◌}
use Prim.Native.Nat.{◌+◌, ◌-◌}
use native.Mathlib.Omega.{arith}
use Rattle.walk.specs.PointLaws.{points_cons, points_nil, runs-turn, runs-end}
use Rattle.walk.proofs.runs_of.Goals as goal

pub run_to-requires : goal.run_to-requires
run_to-requires c = let b = c.loop-i in
    let r = rw (points_cons c.args.ends.now c.args.kinds.now b.i (c.args.count - b.i) (c.args.count - (b.i + 1)) (omega arith)) at b.invariant.1 in
    (omega (arith, r.0, c.from-q.ensures), omega (arith, r.1, c.from-q.ensures))

pub loop-i-preserved : goal.loop-i-preserved
loop-i-preserved c = let b = c.loop-i in
    let g = c.args in
    let e = points_cons g.ends.now g.kinds.now b.i (g.count - b.i) (g.count - (b.i + 1)) (omega arith) in
    let r = rw e at b.invariant.1 in (
      omega (arith, r.1, c.from-q.ensures),
      rw c.from-q.ensures r.2,
      rw (c.run_to.ensures, c.from-q.ensures) (sym (runs-turn g.xs.now g.above.now b.p b.k _ _ _ b.runs b.i e) ∙ b.invariant.2),
    )

pub returns : goal.returns
returns c = let b = c.loop-i in
    runs-end _ _ b.p b.k _ b.runs b.i (points_nil c.args.ends.now c.args.kinds.now b.i (c.args.count - b.i) (omega arith)) ∙ b.invariant.2
