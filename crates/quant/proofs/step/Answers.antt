-- `quant::step`: a scale, doubled once for each six.
use Rattle.std.proofs.Common.{◌≡◌, ◌*◌, ◌/◌, ◌%◌, ◌^◌, arith, w32, to_z, of_z, to_z-of_z, nat_abs}
use Rattle.std.proofs.Math.Nat.{mod-eq_of_lt}
use Rattle.h265.specs.Escape.{from_zero, step_at, step_of}
use Rattle.h265.specs.EscapeLaws.{step_at-low, step_at-high}
use Rattle.quant.specs.Signed.{from_zero_max}
use Rattle.quant.proofs.step.Goals as goal

pub returns : goal.returns
unfolding step_at step_of
returns c = let x = c.args.qp in
    let q : nat_abs (to_z w32 (of_z w32 c.max-q.result)) ≡ from_zero x = rw (to_z-of_z (record { sfits = c.max-q.type_inv }), c.max-q.ensures.value, to_z-of_z c.ranges.qp) (from_zero_max x) in
    let low = step_at-low x in
    let high = step_at-high x c.requires in
    let e : (c.scale.result * 2 ^ (nat_abs (to_z w32 (of_z w32 c.max-q.result)) / 6)) % 18446744073709551616 ≡ step_at x = rw (c.scale.ensures, q) (mod-eq_of_lt (omega arith)) in
    (e, rw e low, rw e high)
