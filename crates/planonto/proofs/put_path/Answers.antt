-- `planonto::put_path`. The loop's invariant: the runs between the points that are left, laid from where it is, make the whole.
use mathlib.Core.Path.{◌≡◌, refl, sym, ◌∙◌}
use Prim.Native.Nat.{◌+◌, ◌-◌, ◌*◌}
use native.Mathlib.Omega.{arith}
use Rattle.walk.specs.PointLaws.{points_cons, points_nil}
use Rattle.planonto.specs.OntoLaws.{flat-turn, flat-end}
use Rattle.planonto.proofs.put_path.Goals as goal

pub loop-i-init : goal.loop-i-init
loop-i-init c = let z : c.args.count - 0 ≡ c.args.count = omega arith in (omega arith, rw z c.requires.1, refl, rw z)

pub run_to-run-requires : goal.run_to-run-requires
run_to-run-requires c = let b = c.loop-i in
    let r = rw (points_cons c.args.ends.now c.args.kinds.now b.i (c.args.count - b.i) (c.args.count - (b.i + 1)) (omega arith)) at b.invariant.1 in
    (omega (arith, r.0, c.from-q.ensures), omega (arith, r.1, c.from-q.ensures))

pub put_run-requires : goal.put_run-requires
put_run-requires c = omega (arith, c.loop-i.invariant.2, c.requires.2)

pub loop-i-preserved : goal.loop-i-preserved
loop-i-preserved c = let b = c.loop-i in
    let g = c.args in
    let e = points_cons g.ends.now g.kinds.now b.i (g.count - b.i) (g.count - (b.i + 1)) (omega arith) in
    let r = rw e at b.invariant.1 in (
      omega (arith, r.1, c.from-q.ensures),
      rw c.from-q.ensures r.2,
      c.put_run.auto.list ∙ b.invariant.2,
      rw (c.put_run.ensures, c.run_to-run.ensures, c.from-q.ensures) (sym (flat-turn g.xs.now g.above.now b.p b.k _ _ _ b.list b.i e) ∙ b.invariant.3),
    )

pub returns : goal.returns
returns c = let b = c.loop-i in
    flat-end c.args.xs.now c.args.above.now b.p b.k _ b.list (4 * b.i) (points_nil c.args.ends.now c.args.kinds.now b.i (c.args.count - b.i) (omega arith)) ∙ b.invariant.3
