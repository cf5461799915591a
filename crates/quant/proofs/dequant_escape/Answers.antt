-- `quant::dequant_escape`: a negative level has the value of level 0.
use Rattle.std.proofs.Common.{◌≡◌, sym, ◌∙◌, w32, to_z, of_z, to_z-of_z, nat_abs}
use Rattle.h265.specs.Escape.{from_zero}
use Rattle.h265.specs.EscapeLaws.{value_lossless, value-from}
use Rattle.quant.specs.Signed.{from_zero_max}
use Rattle.quant.proofs.dequant_escape.Goals as goal

pub returns-then-lossless : goal.returns-then-lossless
returns-then-lossless c = let a = c.args in
    let e : nat_abs (to_z w32 (of_z w32 c.max-n.result)) ≡ from_zero a.level = rw (to_z-of_z (record { sfits = c.max-n.type_inv }), c.max-n.ensures.value, to_z-of_z c.ranges.level) (from_zero_max a.level) in
    rw c.if-lossless.true (c.min.ensures ∙ rw e (sym (value_lossless a.step a.most a.level)))

pub returns-else-lossless : goal.returns-else-lossless
returns-else-lossless c = let a = c.args in
    let e : nat_abs (to_z w32 (of_z w32 c.max-n.result)) ≡ from_zero a.level = rw (to_z-of_z (record { sfits = c.max-n.type_inv }), c.max-n.ensures.value, to_z-of_z c.ranges.level) (from_zero_max a.level) in
    rw c.if-lossless.false (c.decode.ensures ∙ rw e (value-from a.step a.most a.level))
