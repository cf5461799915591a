-- `putcount::put_count`: below 4 × 2^R unary and R bits, else four ones and Exp-Golomb.
use Prim.Native.Nat.{◌/◌, ◌≤◌}
use native.Mathlib.Omega.{arith}
use native.Mathlib.Nat.{div-lt_iff_lt-mul}
use lib.Pow.{pow_mono, pow_pos}
use Rattle.base.specs.Laid.{laid_then}
use Rattle.h265.specs.Strings.{bypass, rice_of}
use Rattle.h265.specs.StringLaws.{length-bits, length-unary}
use Rattle.h265.proofs.RiceLaws.{count_low, count-high}
use Rattle.putcount.proofs.put_count.Goals as goal

pub overflow_mul-p : goal.overflow_mul-p
overflow_mul-p c = omega (arith, c.pow2-p.ensures, pow_mono {i = rice_of c.args.m} {j = 11} (omega arith))

pub put_four-q-requires : goal.put_four-q-requires
put_four-q-requires c = let h : 1 ≤ c.pow2-p.result = omega (arith, c.pow2-p.ensures, pow_pos (rice_of c.args.m)) in
    (omega (arith, (div-lt_iff_lt-mul h).1 c.if-v-p.true), omega arith)

pub put_bits-requires : goal.put_bits-requires
put_bits-requires c = (omega arith, omega (arith, c.put_four-q.ensures.next, length-unary bypass 0 4 (c.args.v / c.pow2-p.result)))

pub returns-then-v-p : goal.returns-then-v-p
returns-then-v-p c = let e = c.pow2-p.ensures in record { laid = rw (count_low c.args.m c.args.v c.pow2-p.result e c.if-v-p.true) (laid_then c.put_four-q.ensures c.put_bits.ensures); near = omega (arith, c.put_four-q.ensures.next, length-unary bypass 0 4 (c.args.v / c.pow2-p.result), rw length-bits at c.put_bits.ensures.next) }

pub put_egk-requires : goal.put_egk-requires
put_egk-requires c = (omega arith, omega arith, omega (arith, c.put_four-q-2.ensures.next, length-unary bypass 0 4 4))

pub returns : goal.returns
returns c = let e = c.pow2-p.ensures in record { laid = rw (count-high c.args.m c.args.v c.pow2-p.result e c.if-v-p.false) (laid_then c.put_four-q-2.ensures c.put_egk.ensures.laid); near = omega (arith, c.put_four-q-2.ensures.next, length-unary bypass 0 4 4, c.put_egk.ensures.near) }
