-- Steps are from 40 to 294912; the value of an escape level by cases.
use Rattle.std.specs.Prelude.{Bool, true, false, ◌≡◌, refl, ℕ, zero, suc, ◌+◌, ◌*◌, ◌-◌, ◌/◌, ◌%◌, ◌^◌, ◌≤◌, ◌<◌, min, ltb, ℤ, pos, negsuc, neg_ℤ, ◌+ℤ◌, ◌≤ℤ◌}
use Rattle.std.proofs.Common.{◌∙◌, mul-le-mul, arith, leb→le, pow_mono, pow_pos, ltb-false}
use Rattle.std.specs.Int.Signed.{shr_z}
use Rattle.base.specs.Pick.{either}
use Rattle.h265.specs.Escape.{from_zero, scale_of, step_of, step_at, escape_value}

-- ---- steps

scale_in : (r : ℕ) → r < 6 → (40 ≤ scale_of r) × (scale_of r ≤ 72)
unfolding scale_of
scale_in zero h = (omega arith, omega arith)
scale_in (suc zero) h = (omega arith, omega arith)
scale_in (suc (suc zero)) h = (omega arith, omega arith)
scale_in (suc (suc (suc zero))) h = (omega arith, omega arith)
scale_in (suc (suc (suc (suc zero)))) h = (omega arith, omega arith)
scale_in (suc (suc (suc (suc (suc zero))))) h = (omega arith, omega arith)
scale_in (suc (suc (suc (suc (suc (suc r)))))) h = absurd (omega arith)

pub step-low : (qp : ℕ) → 40 ≤ step_of qp
unfolding step_of
step-low qp =
    let q : 40 * 1 ≤ scale_of (qp % 6) * 2 ^ (qp / 6) = mul-le-mul (scale_in (qp % 6) (omega arith)).0 (pow_pos (qp / 6)) in
    omega arith

pub step-high : (qp : ℕ) → qp ≤ 75 → step_of qp ≤ 294912
unfolding step_of
step-high qp h =
    let d : qp / 6 ≤ 12 = omega arith in
    let q : scale_of (qp % 6) * 2 ^ (qp / 6) ≤ 72 * 2 ^ 12 = mul-le-mul (scale_in (qp % 6) (omega arith)).1 (pow_mono d) in
    omega arith

pub from_zero_le : (z : ℤ) (n : ℕ) → z ≤ℤ pos n → from_zero z ≤ n
from_zero_le (pos m) n h = leb→le m n h.le
from_zero_le (negsuc m) n h = omega arith

pub step_at-low : (qp : ℤ) → 40 ≤ step_at qp
unfolding step_at
step_at-low qp = step-low (from_zero qp)

pub step_at-high : (qp : ℤ) → qp ≤ℤ pos 75 → step_at qp ≤ 294912
unfolding step_at
step_at-high qp h = step-high (from_zero qp) (from_zero_le qp 75 h)

-- ---- the value of a level

pub value_lossless : (step most : ℕ) (level : ℤ) → escape_value true step most level ≡ min (from_zero level) most
unfolding escape_value
value_lossless step most level = refl

pub value-up : (step most level : ℕ) → escape_value false step most (pos level) ≡ min ((level * step + 32) / 64) most
unfolding escape_value
value-up step most level = refl

-- at most 32 less something, shifted right by 6: 0 at most
down : (n : ℕ) → from_zero (shr_z (neg_ℤ (pos n) +ℤ pos 32) 64) ≡ 0
down zero = refl
down (suc n) =
    either (ltb 32 (suc n))
    (λ t. rw t)
    (λ t. rw t (omega (arith, ltb-false 32 (suc n) t)))

-- negative levels give 0
pub value-down : (step most n : ℕ) → escape_value false step most (negsuc n) ≡ 0
unfolding escape_value
value-down step most n = rw (down (suc n * step)) (omega arith)

pub value_le : (lossless : Bool) (step most : ℕ) (level : ℤ) → escape_value lossless step most level ≤ most
unfolding escape_value
value_le lossless step most level = omega arith

-- so a level and its part from 0 on have one value
pub value-from : (step most : ℕ) (level : ℤ) → escape_value false step most (pos (from_zero level)) ≡ escape_value false step most level
value-from step most (pos n) = refl
value-from step most (negsuc n) = value-up step most 0 ∙ omega (arith, value-down step most n)
