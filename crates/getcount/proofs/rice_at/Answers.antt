-- `getcount::rice_at` reads truncated Rice with its Exp-Golomb end as the definition does.
use Rattle.std.proofs.Common.{rules, ◌+◌, ◌*◌, ◌^◌, add-zero, lt-ltb, le-ltb}
use Rattle.h265.specs.Parse.{rice_at, bits_at}
use Rattle.h265.specs.Turns.{raise-is}
use Rattle.getones.specs.Ones.{ones-raise}
use Rattle.getcount.proofs.rice_at.Goals as goal

pub returns-then-ones-lt4-clause-value : goal.returns-then-ones-lt4-clause-value
unfolding rice_at
returns-then-ones-lt4-clause-value c =
    let s = raise-is (c.in_ok-ones.ones * 2 ^ c.args.r) (bits_at c.args.r c.args.reader.now.list.now c.unary_at.new.reader.at) in
    rw (← c.in_ok-ones.ensures.value, lt-ltb _ _ c.if-ones-lt4.true) (search rules)

pub returns-else-ones-lt4-clause-value : goal.returns-else-ones-lt4-clause-value
unfolding rice_at
returns-else-ones-lt4-clause-value c =
    let a = c.args in
    rw (
      ← c.in_ok-ones.ensures.value,
      le-ltb _ _ c.if-ones-lt4.false,
      ones-raise a.reader.now.at a.reader.now.list.now (4 * 2 ^ a.r) 16 (a.r + 1) 0 c.unary_at.new.reader.at,
      add-zero (4 * 2 ^ a.r),
    )
    (search rules)
