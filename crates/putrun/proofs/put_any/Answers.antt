-- `putrun::put_any`: the prefix, then the suffix.
use native.Mathlib.Omega.{arith}
use Rattle.base.specs.Laid.{laid_none, laid_then}
use Rattle.h265.proofs.RunLaws.{runs_zero, runs-some, prefix_most}
use Rattle.bins.specs.Logarithm.{flog-most}
use Rattle.putrun.proofs.put_any.Goals as goal

pub returns-then-longest-eq0 : goal.returns-then-longest-eq0
returns-then-longest-eq0 c = record { laid = rw (c.if-longest-eq0.true, runs_zero c.args.above c.args.sent c.args.more) (laid_none _ _); near = omega arith }

pub overflow_add-most : goal.overflow_add-most
overflow_add-most c = omega (arith, c.flog-most.ensures, flog-most c.args.longest 11 (omega arith) (omega arith))

pub put_prefix-q-requires : goal.put_prefix-q-requires
put_prefix-q-requires c = (
  omega (arith, c.flog-most.ensures, c.prefix_of.ensures, prefix_most c.args.longest c.args.more (omega arith) (omega arith)),
  omega (arith, c.flog-most.ensures, flog-most c.args.longest 11 (omega arith) (omega arith)),
  omega arith,
)

pub put_suffix-requires : goal.put_suffix-requires
put_suffix-requires c = (omega arith, omega arith, omega (arith, c.put_prefix-q.ensures.near))

pub returns : goal.returns
returns c = record { laid = rw (runs-some c.args.longest c.args.above c.args.sent c.args.more (omega arith), ← c.flog-most.ensures, ← c.prefix_of.ensures) (laid_then c.put_prefix-q.ensures.laid c.put_suffix.ensures.laid); near = omega (arith, c.put_suffix.ensures.near, c.put_prefix-q.ensures.near) }
