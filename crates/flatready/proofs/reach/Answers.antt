-- `flatready::reach`: one place more of each stretch.
use Rattle.std.proofs.Common.{◌≡◌, ◌+◌, ◌*◌, arith}
use Rattle.flatready.specs.Reach.{under_none, under_next, under-four}
use Rattle.flatready.proofs.reach.Goals as goal

pub loop-i-init : goal.loop-i-init
loop-i-init c = (under_none c.args.list.now c.args.from c.args.m 0, under_none c.args.list.now (c.args.from + c.args.n) c.args.m 0, under_none c.args.list.now (c.args.from + 2 * c.args.n) c.args.m 0, under_none c.args.list.now (c.args.from + 3 * c.args.n) c.args.m 0)

pub loop-i-preserved : goal.loop-i-preserved
loop-i-preserved c =
    let l = c.loop-i in
    let o = c.over_four-r.ensures in
    let s = c.args.list.now in
    let a = c.args.from in
    let n = c.args.n in
    let m = c.args.m in
    let x = c.over_four-r.result in
    (under_next s a l.i m l.r x l.invariant.0 o.0, under_next s (a + n) l.i m l.r x l.invariant.1 o.1, under_next s (a + 2 * n) l.i m l.r x l.invariant.2 o.2, under_next s (a + 3 * n) l.i m l.r x l.invariant.3 o.3)

pub returns : goal.returns
returns c =
    let l = c.loop-i in
    let e : l.i ≡ c.args.n = omega arith in
    under-four c.args.list.now c.args.from c.args.n c.args.m l.r (rw e at l.invariant.0) (rw e at l.invariant.1) (rw e at l.invariant.2) (rw e at l.invariant.3)
