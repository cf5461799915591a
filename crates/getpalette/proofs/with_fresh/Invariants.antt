-- `getpalette::with_fresh`: what was there, and the entries so far behind it.
use Rattle.std.proofs.Common.{◌≡◌, ◌++◌, ◌+◌, length, take, drop, replicate}
use Rattle.model.specs.Domain.{no_color}
use Rattle.syntax.specs.Block.{entries}
use Rattle.getpalette.proofs.with_fresh.Given as goal

abbrev pub invariant-loop-i : goal.invariant-loop-i
invariant-loop-i l = record {
  long : length l.out ≡ 64;
  laid : take (l.from + l.i) l.out ≡ take l.from l.initial.out ++ entries (take l.i l.y) (take l.i l.cb) (take l.i l.cr);
  blank : drop (l.from + l.i) l.out ≡ drop (l.from + l.i) (replicate 64 no_color);
}
