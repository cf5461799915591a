-- `assign::Entries::index_of`: the nearest entry from the least key.
use Rattle.std.proofs.Common.{◌≤◌, ◌<◌, ◌/◌, arith}
use Rattle.assign.specs.Keys.{keyed_near, keyed_far}
use Rattle.assign.proofs.Entries.index_of.Goals as goal

pub returns-then-from-self : goal.returns-then-from-self
returns-then-from-self c = let s = c.args.self.now in
    let b : c.least_key-best.result / 64 ≤ s.tol = rw c.from.ensures at c.if-from-self.true in
    rw c.from-then-from-self.ensures (keyed_near s.tol c.args.e s.palette.now s.n c.least_key-best.result s.bounds.0 s.bounds.1 (omega arith) c.least_key-best.ensures b)

pub returns-else-from-self : goal.returns-else-from-self
returns-else-from-self c = let s = c.args.self.now in
    let b : s.tol < c.least_key-best.result / 64 = rw c.from.ensures at c.if-from-self.false in
    keyed_far s.tol c.args.e s.palette.now s.n c.least_key-best.result s.bounds.0 s.bounds.1 (omega arith) c.least_key-best.ensures b
