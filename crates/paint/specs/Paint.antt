-- The palette of colours with their counts. Definitions only.
use Rattle.std.specs.Prelude.{List, map, ℕ, get_or, length}
use Rattle.order.specs.Order.{count_in, ordered}
use Rattle.reps.specs.Reps.{reps}
use Rattle.choose.specs.Choose.{Chosen, chosen}

-- the colour of number k
abbrev pub colour_in : List ℕ → ℕ → ℕ
colour_in ms k = get_or ms k 0

-- the colours ms by falling count cs, ties as first met
unfoldable pub in_order : List ℕ → List ℕ → List ℕ
in_order ms cs = map (colour_in ms) (ordered (count_in cs) (length ms))

-- palette and flags of colours ms with counts cs, from predictor entries es
unfoldable pub palette_of : ℕ → ℕ → List ℕ → List ℕ → List ℕ → Chosen
palette_of tol limit es ms cs = chosen tol es (reps tol limit (in_order ms cs) (length ms))
