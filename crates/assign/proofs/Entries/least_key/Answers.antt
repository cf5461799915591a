-- `assign::Entries::least_key`: one entry more, and all of them.
use Rattle.std.proofs.Common.{◌≡◌, min, arith}
use Rattle.assign.specs.Keys.{key_at, keyed_start, keyed_turn}
use Rattle.assign.proofs.Entries.least_key.Goals as goal

pub loop-k-init : goal.loop-k-init
loop-k-init c = let s = c.args.self.now in
    let x = c.entry_key-best in
    keyed_start c.args.e s.palette.now s.n x.result s.bounds.0 (key_at c.args.e s.palette.now s.n s.ys s.us s.vs 0 x.result s.split (omega arith) x.ensures)

pub loop-k-preserved : goal.loop-k-preserved
loop-k-preserved c = let s = c.args.self.now in
    let l = c.loop-k in
    let x = c.entry_key in
    rw c.min-best.ensures (keyed_turn c.args.e s.palette.now s.n l.k l.best x.result s.bounds.0 (omega arith) l.invariant (key_at c.args.e s.palette.now s.n s.ys s.us s.vs l.k x.result s.split (omega arith) x.ensures))

pub returns : goal.returns
returns c = let l = c.loop-k in
    let s = c.args.self.now in
    let e : min l.k s.n ≡ s.n = omega (arith, s.bounds.1) in
    rw e at l.invariant
