-- `readblock::levels_of`: the cells so far, and blank past them.
use Rattle.std.proofs.Common.{◌≡◌, length, take, drop, replicate}
use Rattle.model.specs.Whole.{no_levels}
use Rattle.readblock.specs.Read.{zip_levels}
use Rattle.readblock.proofs.levels_of.Given as goal

abbrev pub invariant-loop-i : goal.invariant-loop-i
invariant-loop-i l = record {
  long : length l.out ≡ 1024;
  laid : take l.i l.out ≡ zip_levels (take l.i l.y) (take l.i l.cb) (take l.i l.cr);
  blank : drop l.i l.out ≡ drop l.i (replicate 1024 no_levels);
}
