-- `getones::ones_at`: the ones at one go, then the bits.
use Rattle.std.proofs.Common.{rules, arith, ◌+◌, pow_mono, lt-ltb, le-ltb}
use Rattle.getones.specs.Ones.{ones-unary}
use Rattle.getones.proofs.ones_at.Goals as goal

pub returns-in_err-ones-clause-value : goal.returns-in_err-ones-clause-value
returns-in_err-ones-clause-value c =
    rw (ones-unary c.args.first c.args.reader.now.list.now 16 0 c.args.order c.args.from c.args.reader.now.at, ← c.in_err-ones.ensures.value) (search rules)

pub returns-then-ones-gt16-clause-value : goal.returns-then-ones-gt16-clause-value
returns-then-ones-gt16-clause-value c =
    rw (ones-unary c.args.first c.args.reader.now.list.now 16 0 c.args.order c.args.from c.args.reader.now.at, ← c.in_ok-ones.ensures.value, lt-ltb _ _ c.if-ones-gt16.true) (search rules)

pub overflow_sub-pow2 : goal.overflow_sub-pow2
overflow_sub-pow2 c = omega (arith, c.pow2.ensures, c.pow2-2.ensures, pow_mono {i = c.args.order} {j = c.args.order + c.in_ok-ones.ones} (omega arith))

pub tail_at-requires : goal.tail_at-requires
tail_at-requires c = (omega arith, omega (arith, c.pow2.ensures, pow_mono {i = c.args.order + c.in_ok-ones.ones} {j = 29} (omega arith)))

pub returns-clause-value : goal.returns-clause-value
returns-clause-value c =
    rw (ones-unary c.args.first c.args.reader.now.list.now 16 0 c.args.order c.args.from c.args.reader.now.at, ← c.in_ok-ones.ensures.value, le-ltb _ _ c.if-ones-gt16.false) (search rules)
