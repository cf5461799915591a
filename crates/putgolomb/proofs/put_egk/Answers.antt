-- `putgolomb::put_egk`. The invariant: the rest of the value, coded from here on, makes the whole.
use mathlib.Core.Path.{refl, ◌∙◌}
use Prim.Native.Nat.{◌+◌}
use native.Mathlib.Omega.{arith}
use lib.Pow.{pow_mono, pow_pos}
use Rattle.base.specs.Laid.{left-start, left-turn, left-last}
use Rattle.base.specs.Powers.{pow_next, exp_lt}
use Rattle.h265.specs.StringLaws.{egk-turn, egk-last, length-bits}
use Rattle.putgolomb.proofs.put_egk.Goals as goal

pub pow2-p-requires : goal.pow2-p-requires
pow2-p-requires c = omega arith

pub loop-p-init : goal.loop-p-init
loop-p-init c = (c.pow2-p.ensures, omega (arith, c.pow2-p.ensures, pow_mono {i = c.args.order} {j = 13} (omega arith)), refl, omega arith, refl, left-start _ _ _)

pub put_bin-to-requires : goal.put_bin-to-requires
put_bin-to-requires c = omega arith

pub overflow_add-k : goal.overflow_add-k
overflow_add-k c = omega arith

pub overflow_add-p : goal.overflow_add-p
overflow_add-p c = omega arith

pub loop-p-smaller : goal.loop-p-smaller
loop-p-smaller c = omega (arith, pow_pos c.loop-p.k)

pub loop-p-preserved : goal.loop-p-preserved
loop-p-preserved c = let b = c.loop-p in
    let e = pow_next b.k in (
      omega (arith, e, b.invariant.0),
      omega arith,
      omega (arith, c.put_bin-to.ensures.next),
      omega (arith, exp_lt 17 (b.k + 1) (omega (arith, e, b.invariant.0))),
      c.put_bin-to.auto.list ∙ b.invariant.4,
      left-turn _ c.put_bin-to.ensures (rw (egk-turn b.k b.v b.p b.invariant.0 (omega arith)) at b.invariant.5),
    )

pub put_bin-to-requires-2 : goal.put_bin-to-requires-2
put_bin-to-requires-2 c = omega arith

pub put_bits-requires : goal.put_bits-requires
put_bits-requires c = (omega arith, omega (arith, c.put_bin-to-2.ensures.next))

pub returns : goal.returns
returns c = let b = c.loop-p in
    let w = rw (egk-last b.k b.v (omega (arith, b.invariant.0))) at b.invariant.5 in record { laid = left-last c.put_bits.ensures (left-turn _ c.put_bin-to-2.ensures w); near = omega (arith, c.put_bin-to-2.ensures.next, rw length-bits at c.put_bits.ensures.next) }
