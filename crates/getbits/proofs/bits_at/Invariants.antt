-- `getbits::bits_at` reads a fixed-length value as the definition does: what is left to read from here is what was to be read.
use Rattle.std.proofs.Common.{◌≡◌, ◌-◌, ◌^◌, ◌<◌}
use Rattle.h265.specs.Parse.{bits_from}
use Rattle.getbits.proofs.bits_at.Given as goal

abbrev pub invariant-loop : goal.invariant-loop
invariant-loop l = record {
  small : l.value < 2 ^ l.counter;
  left : bits_from (l.n - l.counter) l.value l.reader.list.now l.reader.at ≡ bits_from l.n 0 l.fn.reader.list.now l.fn.reader.at;
  list : l.reader.list ≡ l.fn.reader.list;
}
