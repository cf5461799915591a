-- `getreuse::reuse_at` reads the reuse runs as the definition does: the flags so far before what is left to read are what was to be read.
use Rattle.std.proofs.Common.{◌≡◌, ◌-◌}
use Rattle.getreuse.specs.Loop.{Going}
use Rattle.getreuse.proofs.reuse_at.Given as goal

abbrev pub invariant-loop-next : goal.invariant-loop-next
invariant-loop-next l = record {
  going : Going l.limit l.count l.fn.reader.list.now l.fn.reader.at l.flags l.reused l.next l.reader.at;
  list : l.reader.list ≡ l.fn.reader.list;
}

abbrev pub decreases-loop-next : goal.decreases-loop-next
decreases-loop-next l = l.limit - l.reused
