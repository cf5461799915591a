-- A number as decimal text, in ASCII: its digits, the highest first, none to spare.
use Rattle.std.specs.Prelude.{List, [], ◌∷◌, ◌++◌, ℕ, zero, suc, ◌+◌, ◌*◌, ◌-◌, ◌/◌, ◌%◌, ltb}
use Rattle.base.specs.Pick.{pick}

-- f bounds the digits after the first, and n itself is bound enough
unfoldable pub decimal_aux : ℕ → ℕ → List ℕ
decimal_aux zero n = (48 + n) ∷ []
decimal_aux (suc f) n = let more : List ℕ = decimal_aux f (n / 10) ++ ((48 + n % 10) ∷ []) in pick (ltb n 10) ((48 + n) ∷ []) more

unfoldable pub decimal : ℕ → List ℕ
decimal n = decimal_aux n n

-- what digits say, read from the left, with `a` in front of them
unfoldable pub value_from : ℕ → List ℕ → ℕ
value_from a [] = a
value_from a (d ∷ ds) = value_from (a * 10 + (d - 48)) ds
