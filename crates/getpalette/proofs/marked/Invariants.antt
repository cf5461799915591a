-- `getpalette::marked`: the entries so far, before those still to be marked, are all of them.
use Rattle.std.proofs.Common.{◌≡◌, ◌++◌, ◌+◌, length, take, drop, replicate}
use Rattle.h265.specs.Reuse.{trues}
use Rattle.model.specs.Domain.{no_color}
use Rattle.syntax.specs.Block.{chosen}
use Rattle.getpalette.proofs.marked.Given as goal

abbrev pub invariant-loop-i : goal.invariant-loop-i
invariant-loop-i l = record {
  long : length l.out ≡ 64;
  counted : l.k + trues (drop l.i (take (length l.old) l.flags)) ≡ trues (take (length l.old) l.flags);
  same : take l.k l.out ++ chosen (drop l.i (take (length l.old) l.flags)) (drop l.i (take (length l.old) l.old)) ≡ chosen (take (length l.old) l.flags) (take (length l.old) l.old);
  blank : drop l.k l.out ≡ drop l.k (replicate 64 no_color);
}
