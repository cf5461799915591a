-- Document 01: tolerance, the level of an escaped value, and the distance of two colours.
use Rattle.std.specs.Prelude.{Bool, false, ℕ, ◌+◌, ◌*◌, ◌-◌, ◌/◌, ◌%◌, ◌^◌, min, max, ltb, pos}
use Rattle.base.specs.Pick.{pick}
use Rattle.h265.specs.Escape.{escape_value}

-- 0 when lossless, else (step + 64) div 128, at most 16
unfoldable pub tolerance_of : Bool → ℕ → ℕ
tolerance_of lossless step = pick lossless 0 (min ((step + 64) / 128) 16)

-- how far two numbers are apart
abbrev pub gap : ℕ → ℕ → ℕ
gap a b = (a - b) + (b - a)

-- ---- the level of a value v

-- the error of a level
abbrev pub error_of : ℕ → ℕ → ℕ → ℕ → ℕ
error_of step most v level = gap (escape_value false step most (pos level)) v

-- s
abbrev pub start_of : ℕ → ℕ → ℕ
start_of step v = (128 * v + step) / (2 * step)

-- of two levels the one with the lesser error, the first on ties
unfoldable pub nearer : ℕ → ℕ → ℕ → ℕ → ℕ → ℕ
nearer step most v a b = pick (ltb (error_of step most v b) (error_of step most v a)) b a

-- of s - 1, s and s + 1, none below 0, the one with the least error, the lowest on ties
unfoldable pub quantised : ℕ → ℕ → ℕ → ℕ
quantised step most v = nearer step most v (nearer step most v (start_of step v - 1) (start_of step v)) (start_of step v + 1)

-- lossless passes values through, held to range
unfoldable pub level_of : Bool → ℕ → ℕ → ℕ → ℕ
level_of lossless step most v = pick lossless (min v most) (quantised step most v)

-- ---- colours

-- a colour is one number, 16 bits for each component
abbrev pub packed : ℕ → ℕ → ℕ → ℕ
packed y u v = y + 2 ^ 16 * u + 2 ^ 32 * v

abbrev pub y_of : ℕ → ℕ
y_of c = c % 2 ^ 16

abbrev pub u_of : ℕ → ℕ
u_of c = c / 2 ^ 16 % 2 ^ 16

abbrev pub v_of : ℕ → ℕ
v_of c = c / 2 ^ 32 % 2 ^ 16

-- the largest difference of a component
unfoldable pub dist : ℕ → ℕ → ℕ
dist a b = max (gap (y_of a) (y_of b)) (max (gap (u_of a) (u_of b)) (gap (v_of a) (v_of b)))
