-- `getones::ones_of` reads ones as the definition does: the ones read so far, and what is left to read.
use Rattle.std.proofs.Common.{◌≡◌, ◌-◌, ℕ}
use Rattle.h265.specs.Parse.{unary_at}
use Rattle.h265.specs.Turns.{raise}
use Rattle.getones.proofs.ones_of.Given as goal

abbrev pub invariant-loop-ones : goal.invariant-loop-ones
invariant-loop-ones g l = record {
  left : (c : ℕ → ℕ) → ((i r : ℕ) → g.F.Fn.post l.class (i, tt) r → r ≡ c i) → raise l.ones (unary_at c l.ones (l.most - l.ones) l.reader.list.now l.reader.at) ≡ unary_at c 0 l.most l.fn.reader.list.now l.fn.reader.at;
  list : l.reader.list ≡ l.fn.reader.list;
}
