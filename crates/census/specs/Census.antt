-- The colours of a block as first met, and how often each is met. Definitions only.
use Rattle.std.specs.Prelude.{Option, None, Some, Bool, true, List, [], ◌∷◌, ◌++◌, ℕ, zero, suc, ◌+◌, ◌*◌, eqb, ltb, get_or, set, length}
use Rattle.base.specs.Pick.{pick}
use Rattle.base.specs.Lists.{padded}
use Rattle.colors.specs.Place.{place_of, seen}
use Rattle.colors.specs.Table.{Table, after_of}
use Rattle.census.specs.declared.Census.{Census}

-- what has been met of the first n samples, each seen through f
unfoldable pub met_by : (ℕ → ℕ) → List ℕ → ℕ → List ℕ
met_by f xs zero = []
met_by f xs (suc i) = seen (met_by f xs i) (f (get_or xs i 0))

abbrev pub itself : ℕ → ℕ
itself x = x

-- the colours as first met
abbrev pub met : List ℕ → ℕ → List ℕ
met xs n = met_by itself xs n

-- one more sample counted: at its colour's place, or as a first
unfoldable pub tally : List ℕ → List ℕ → ℕ → List ℕ
tally ms cs key = pick (ltb (place_of key ms) (length ms)) (set cs (place_of key ms) (get_or cs (place_of key ms) 0 + 1)) (cs ++ (1 ∷ []))

-- the count of each colour met
unfoldable pub counts : List ℕ → ℕ → List ℕ
counts xs zero = []
counts xs (suc i) = tally (met xs i) (counts xs i) (get_or xs i 0)

-- refusal 13: more than 128 distinct colours, or distinct × 2 > n
unfoldable pub too_many : ℕ → ℕ → Bool
too_many distinct n = pick (ltb 128 distinct) true (ltb n (distinct * 2))

abbrev pub census : ℕ → List ℕ → List ℕ → Census
census d ms cs = record { distinct = d; met = padded 128 0 ms; counts = padded 128 0 cs }

-- colours and counts of a block; 129 stands for any number above 128, and then there are none
unfoldable pub census_of : List ℕ → ℕ → Census
census_of xs n = pick (ltb 128 (length (met xs n))) (census 129 [] []) (census (length (met xs n)) (met xs n) (counts xs n))

-- an answer's colours; where it is none there are more than 128
abbrev pub as_census : Option Census → Census
as_census None = census 129 [] []
as_census (Some found) = found

-- the counter's table after the count, which ends at the 129th colour
unfoldable pub table_to : Table → ℕ → List ℕ → ℕ → Table
table_to t g xs zero = t
table_to t g xs (suc i) = pick (ltb 128 (length (met xs i))) (table_to t g xs i) (after_of (table_to t g xs i) g (get_or xs i 0) (length (met xs i)))

-- ---- what the laws speak of

unfoldable pub total : List ℕ → ℕ
total [] = 0
total (c ∷ cs) = c + total cs

-- how often k stands among the first n samples
unfoldable pub occurs : ℕ → List ℕ → ℕ → ℕ
occurs k xs zero = 0
occurs k xs (suc i) = pick (eqb (get_or xs i 0) k) (suc (occurs k xs i)) (occurs k xs i)
