-- `getruns::runs_at`: the runs laid so far before what is left to read are what was to be read.
use Rattle.std.proofs.Common.{◌≡◌, ◌-◌, ◌≤◌, false, length, take, drop, replicate}
use Rattle.base.specs.Prepend.{prepend}
use Rattle.syntax.specs.Records.{no_run}
use Rattle.syntax.specs.Runs.{runs_at}
use Rattle.getruns.proofs.runs_at.Given as goal

abbrev pub invariant-loop-scan : goal.invariant-loop-scan
invariant-loop-scan l = record {
  counted : l.count ≤ l.scan;
  inside : l.scan ≤ l.n;
  few : length l.left ≤ 1024;
  long : length l.runs ≡ 1024;
  same : prepend (take l.count l.runs) (runs_at (l.n - l.count) l.size l.n l.fin l.scan l.prev l.left l.reader.list.now l.reader.at) ≡ runs_at l.n l.size l.n l.fin 0 false l.fn.sent l.fn.reader.list.now l.fn.reader.at;
  blank : drop l.count l.runs ≡ drop l.count (replicate 1024 no_run);
  list : l.reader.list ≡ l.fn.reader.list;
}

abbrev pub decreases-loop-scan : goal.decreases-loop-scan
decreases-loop-scan l = l.n - l.scan
