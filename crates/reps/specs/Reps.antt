-- Document 01: a colour within tolerance of an earlier representative in every component is dropped; at most `limit` stay. Definitions only.
use Rattle.std.specs.Prelude.{Option, None, Some, Bool, true, List, [], ◌∷◌, ◌++◌, ◌≡◌, ℕ, zero, suc, ◌≤◌, ◌<◌, ltb, leb, get_or, length, take, drop}
use Rattle.base.specs.Pick.{pick}
use Rattle.base.specs.Lists.{padded}
use Rattle.quant.specs.Quant.{dist}
use Rattle.reps.specs.declared.Reps.{Reps}

-- within tolerance in every component
unfoldable pub within : ℕ → ℕ → ℕ → Bool
within tol a b = leb (dist a b) tol

-- the place of the first that is within tolerance of e; the list's length where none is
unfoldable pub hit_of : ℕ → ℕ → List ℕ → ℕ
hit_of tol e [] = 0
hit_of tol e (x ∷ xs) = pick (within tol e x) 0 (suc (hit_of tol e xs))

-- a place found, or the list's length where none is
abbrev pub place_in : List ℕ → Option ℕ → ℕ
place_in xs None = length xs
place_in xs (Some r) = r

-- one more colour c: dropped where one of the representatives rs is within tolerance, or where there is no room
unfoldable pub joined : ℕ → ℕ → List ℕ → ℕ → List ℕ
joined tol limit rs c = pick (ltb (length rs) limit) (pick (ltb (hit_of tol c rs) (length rs)) rs (rs ++ (c ∷ []))) rs

-- the representatives of the first n colours
unfoldable pub reps : ℕ → ℕ → List ℕ → ℕ → List ℕ
reps tol limit cs zero = []
reps tol limit cs (suc i) = joined tol limit (reps tol limit cs i) (get_or cs i 0)

-- colours with their number, 0 behind them
abbrev pub listed : List ℕ → Reps
listed rs = record { count = length rs; list = padded 64 0 rs }

-- ---- what the laws speak of

-- one of rs is within tolerance of c
abbrev pub Near : ℕ → List ℕ → ℕ → Type 0
Near tol rs c = (r : ℕ) × (r < length rs) × (within tol c (get_or rs r 0) ≡ true)

-- one more colour in an array: n before it, r after it
pub record Joined (tol limit c n r : ℕ) (l₀ l : List ℕ) : Type 0 where
  pub wide : length l ≡ 64
  pub few : r ≤ limit
  pub more : n ≤ r
  pub is : take r l ≡ joined tol limit (take n l₀) c
  pub behind : drop r l ≡ drop r l₀
