-- `assign::Entries::least_key`: the least key of the entries passed.
use Rattle.std.proofs.Common.{min}
use Rattle.assign.specs.Keys.{Keyed}
use Rattle.assign.proofs.Entries.least_key.Given as goal

abbrev pub invariant-loop-k : goal.invariant-loop-k
invariant-loop-k l = Keyed l.e l.self.palette.now (min l.k l.self.n) l.best
