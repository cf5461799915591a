-- The step of a QP and the value of an escape level (8.4.4.2.7).
use Rattle.std.specs.Prelude.{Bool, [], ◌∷◌, ℕ, ◌*◌, ◌-◌, ◌/◌, ◌%◌, ◌^◌, min, ℤ, pos, negsuc, ◌+ℤ◌, ◌*ℤ◌, get_or}
use Rattle.std.specs.Int.Signed.{shr_z}
use Rattle.base.specs.Pick.{pick}

-- a signed number, negatives as 0
abbrev pub from_zero : ℤ → ℕ
from_zero (pos n) = n
from_zero (negsuc n) = 0

-- levelScale
unfoldable pub scale_of : ℕ → ℕ
scale_of r = get_or (40 ∷ 45 ∷ 51 ∷ 57 ∷ 64 ∷ 72 ∷ []) r 0

-- the step of a QP from 0 on
unfoldable pub step_of : ℕ → ℕ
step_of qp = scale_of (qp % 6) * 2 ^ (qp / 6)

-- the step of any QP, negatives as 0
unfoldable pub step_at : ℤ → ℕ
step_at qp = step_of (from_zero qp)

-- the greatest sample of a depth
abbrev pub most_of : ℕ → ℕ
most_of depth = 2 ^ depth - 1

-- held to 0 .. top
abbrev pub clip : ℕ → ℤ → ℕ
clip top z = min (from_zero z) top

-- the value of a level: lossless the level, else (level × step + 32) shifted right by 6, rounded down; held to 0 .. most
unfoldable pub escape_value : Bool → ℕ → ℕ → ℤ → ℕ
escape_value lossless step most level = clip most (pick lossless level (shr_z (level *ℤ pos step +ℤ pos 32) 64))
