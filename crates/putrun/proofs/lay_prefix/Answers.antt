-- `putrun::lay_prefix`: the bytes of the word are the prefix.
use mathlib.Core.Path.{ap₂}
use Prim.Native.Nat.{◌+◌}
use native.Mathlib.Omega.{arith}
use Rattle.put.specs.Words.{length-bytes}
use Rattle.putrun.specs.Few.{word-most, ones-most, prefix_bytes}
use Rattle.putrun.proofs.lay_prefix.Goals as goal

pub overflow_add-w : goal.overflow_add-w
overflow_add-w c = omega (arith, c.word_of.ensures, c.ones_of.ensures, word-most c.args.above c.args.sent, ones-most c.args.ones)

pub returns : goal.returns
returns c = let e = prefix_bytes c.args.above c.args.sent c.args.ones c.args.most _ _ (omega arith) (omega arith) c.prefix_size.ensures.0 (ap₂ ◌+◌ c.word_of.ensures c.ones_of.ensures) in
    (rw (← e) c.lay_word.ensures, omega (arith, rw length-bytes at c.lay_word.ensures.next, c.prefix_size.ensures.1))
