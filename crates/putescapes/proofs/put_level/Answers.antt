-- `putescapes::put_level`
use native.Mathlib.Omega.{arith}
use Rattle.h265.specs.StringLaws.{length-bits}
use Rattle.putescapes.proofs.put_level.Goals as goal

pub put_bits-requires : goal.put_bits-requires
put_bits-requires c = (omega arith, omega arith)

pub returns-then-lossless : goal.returns-then-lossless
returns-then-lossless c = record { laid = rw c.if-lossless.true c.put_bits.ensures; near = omega (arith, c.put_bits.ensures.next, length-bits c.args.depth c.args.v) }

pub put_egk-requires : goal.put_egk-requires
put_egk-requires c = (omega arith, omega arith, omega arith)

pub returns : goal.returns
returns c = record { laid = rw c.if-lossless.false c.put_egk.ensures.laid; near = c.put_egk.ensures.near }
