-- `getmap::each_index`: what was read, before what is left to read, is what was to be read.
use Rattle.std.proofs.Common.{◌≡◌, ◌-◌, length, take, drop}
use Rattle.base.specs.Codes.{each_at}
use Rattle.base.specs.Prepend.{prepend}
use Rattle.h265.specs.Parse.{tb_at}
use Rattle.syntax.specs.Block.{alphabets}
use Rattle.getmap.proofs.each_index.Given as goal

abbrev pub invariant-loop-k : goal.invariant-loop-k
invariant-loop-k l = record {
  long : length l.sent ≡ 1024;
  same : prepend (take l.k l.sent) (each_at tb_at (drop l.k (alphabets l.m (l.total - 1))) l.reader.list.now l.reader.at) ≡ each_at tb_at (alphabets l.m (l.total - 1)) l.fn.reader.list.now l.fn.reader.at;
  list : l.reader.list ≡ l.fn.reader.list;
}
