-- `census::count`: after i samples the arrays hold their colours and counts, and the table what has been met. Assumes nothing.
use Rattle.std.proofs.Common.{◌≡◌, ◌-◌, ◌≤◌, length}
use Rattle.colors.specs.Table.{tab}
use Rattle.census.specs.Going.{Going}
use Rattle.census.proofs.count.Given as goal

abbrev pub invariant-loop-i : goal.invariant-loop-i
invariant-loop-i l = record {
  le : l.i ≤ length l.samples;
  going : Going (tab l.initial.counter.keys l.initial.counter.entry l.initial.counter.stamp) (tab l.counter.keys l.counter.entry l.counter.stamp) l.initial.counter.generation l.samples l.i l.found.distinct l.found.met l.found.counts;
  kept : l.counter.generation ≡ l.initial.counter.generation;
}

abbrev pub decreases-loop-i : goal.decreases-loop-i
decreases-loop-i l = length l.samples - l.i
