-- `getentries::each_bits`: what was read, before what is left to read, is what was to be read.
use Rattle.std.proofs.Common.{◌≡◌, ◌-◌, take, replicate, length}
use Rattle.base.specs.Codes.{each_at}
use Rattle.base.specs.Prepend.{prepend}
use Rattle.h265.specs.Parse.{bits_at}
use Rattle.getentries.proofs.each_bits.Given as goal

abbrev pub invariant-loop-value : goal.invariant-loop-value
invariant-loop-value l = record {
  room : length l.value-items ≡ l.n;
  left : prepend (take l.value-index l.value-items) (each_at bits_at (replicate (l.n - l.value-index) l.depth) l.reader.list.now l.reader.at) ≡ each_at bits_at (replicate l.n l.depth) l.fn.reader.list.now l.fn.reader.at;
  list : l.reader.list ≡ l.fn.reader.list;
}
