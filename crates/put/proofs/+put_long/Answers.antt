-- `put::put_long`: eight bits as a word, or the lowest bit after the others.
use native.Mathlib.Omega.{arith}
use Rattle.base.specs.Laid.{laid_none, laid_then}
use Rattle.h265.specs.Strings.{bits}
use Rattle.h265.specs.StringLaws.{length-bits}
use Rattle.put.specs.Straight.{bits-last}
use Rattle.put.proofs.+put_long.Goals as goal

pub returns-then-n-eq0 : goal.returns-then-n-eq0
unfolding bits
returns-then-n-eq0 t c = rw c.if-n-eq0.true (laid_none _ _)

pub put_bin-requires : goal.put_bin-requires
put_bin-requires t c = omega (arith, rw length-bits at c.put_long-to.ensures.next, c.requires.1)

pub returns : goal.returns
returns t c = rw (bits-last c.args.n c.args.value (omega (arith, c.if-n-eq0.false))) (laid_then c.put_long-to.ensures c.put_bin.ensures)
