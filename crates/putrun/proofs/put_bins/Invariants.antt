-- `putrun::put_bins`: ones, then a zero unless they are the most. The word's lowest byte is that of the next bin.
use mathlib.Core.Path.{◌≡◌}
use Prim.Native.Nat.{◌+◌, ◌-◌}
use lib.ListN.{length}
use Rattle.base.specs.Laid.{Left}
use Rattle.h265.specs.Strings.{unary, run_class}
use Rattle.putrun.specs.Word.{word_from}
use Rattle.putrun.proofs.put_bins.Given as goal

abbrev pub invariant-loop : goal.invariant-loop
invariant-loop l = (l.to ≡ l.at + l.counter) × (length l.list ≡ length l.initial.list) × Left l.initial.list l.at (unary (run_class l.above l.sent) 0 l.most l.ones) l.list l.to (unary (run_class l.above l.sent) l.counter (l.most - l.counter) (l.ones - l.counter)) × (l.w ≡ word_from l.above l.sent l.counter)
