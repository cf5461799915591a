-- `assign::Entries::search`: the nearest of the entries passed, and its distance.
use Rattle.assign.specs.Laws.{Found}
use Rattle.assign.proofs.Entries.search.Given as goal

abbrev pub invariant-loop-k : goal.invariant-loop-k
invariant-loop-k l = Found l.e l.self.palette.now l.k l.best l.err
