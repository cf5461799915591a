-- `assign::Entries::search`: one entry more, and all of them.
use Rattle.std.proofs.Common.{◌≡◌, arith}
use Rattle.assign.specs.Laws.{found_none, found-nearer, found-same, found-near, found-far}
use Rattle.assign.proofs.Entries.search.Goals as goal
use Rattle.assign.proofs.Entries.search.Goals.{then-d-err, else-d-err}

pub loop-k-init : goal.loop-k-init
loop-k-init c = found_none _ _ _ c.distance-err.ensures

pub loop-k-preserved : goal.loop-k-preserved
loop-k-preserved c =
    let l = c.loop-k in
    let ps = c.args.self.now.palette.now in
    let d = c.distance-d in
    elim c.if-d-err.branch [
      | then-d-err w ↦ found-nearer c.args.e ps l.k l.best l.err d.result c.if-d-err.best c.if-d-err.err l.invariant d.ensures w.if-d-err.true w.best-is w.err-is
      | else-d-err w ↦ found-same c.args.e ps l.k l.best l.err d.result c.if-d-err.best c.if-d-err.err l.invariant d.ensures w.if-d-err.false w.best-is w.err-is
    ]

pub returns-then-err-self : goal.returns-then-err-self
returns-then-err-self c = let l = c.loop-k in
    let s = c.args.self.now in
    let q : l.k ≡ s.n = omega arith in
    found-near s.tol c.args.e s.palette.now s.n l.best l.err s.bounds.0 (rw q at l.invariant) c.if-err-self.true

pub returns-else-err-self : goal.returns-else-err-self
returns-else-err-self c = let l = c.loop-k in
    let s = c.args.self.now in
    let q : l.k ≡ s.n = omega arith in
    (found-far s.tol c.args.e s.palette.now s.n l.best l.err (rw q at l.invariant) c.if-err-self.false, omega arith)
