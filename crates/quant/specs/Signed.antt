-- A signed number held from 0 on, as the code casts it; its test against 0, and its cast where that fails.
use Rattle.std.specs.Prelude.{true, false, ◌≡◌, refl, ◌≤◌, T, zero, suc, ℤ, pos, negsuc, nat_abs}
use Rattle.std.proofs.Common.{not-suc-le-zero, arith, lt-ltb, ltb-true, SFits}
use Rattle.std.specs.Int.Signed.{lt_z, non_neg}
use Rattle.std.specs.Int.{int_max, w32}
use Rattle.base.specs.Pick.{true_false}
use Rattle.h265.specs.Escape.{from_zero}

pub from_zero_max : (x : ℤ) → nat_abs (int_max x (pos 0)) ≡ from_zero x
from_zero_max (pos zero) = refl
from_zero_max (pos (suc n)) = rw (lt-ltb 0 (suc n) (omega arith))
from_zero_max (negsuc n) = refl

pub below_zero : (x : ℤ) → lt_z x (pos 0) ≡ true → 0 ≡ from_zero x
below_zero (pos n) h = absurd (not-suc-le-zero (ltb-true n 0 h))
below_zero (negsuc n) h = refl

pub from_zero_lem : (x : ℤ) → lt_z x (pos 0) ≡ false → nat_abs x ≡ from_zero x
from_zero_lem (pos n) h = refl
from_zero_lem (negsuc n) h = absurd (true_false h)

pub not_below : (x : ℤ) → lt_z x (pos 0) ≡ false → T (non_neg x)
not_below (pos n) h = tt
not_below (negsuc n) h = absurd (true_false h)

pub from_zero-fits : (x : ℤ) → SFits w32 x → from_zero x ≤ 2147483647
from_zero-fits (pos n) f = omega (arith, f.sfits)
from_zero-fits (negsuc n) f = omega arith
