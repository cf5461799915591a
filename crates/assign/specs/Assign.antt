-- Assignment: the entry nearest to a colour, the lowest number on equal distance; beyond tolerance the cell escapes.
use Rattle.std.specs.Prelude.{List, ℕ, zero, suc, eqb, ltb, leb, get_or}
use Rattle.base.specs.Pick.{pick}
use Rattle.base.specs.Sums.{how_many}
use Rattle.quant.specs.Quant.{dist}

-- of the first k entries of a palette the nearest to colour e, the lowest of these
unfoldable pub nearest_to : ℕ → List ℕ → ℕ → ℕ
nearest_to e ps zero = 0
nearest_to e ps (suc k) = pick (ltb (dist e (get_or ps k 0)) (dist e (get_or ps (nearest_to e ps k) 0))) k (nearest_to e ps k)

-- the index of colour e in a palette of n entries: n, an escape, where the nearest is beyond tolerance
unfoldable pub index_of : ℕ → List ℕ → ℕ → ℕ → ℕ
index_of tol ps n e = pick (leb (dist e (get_or ps (nearest_to e ps n) 0)) tol) (nearest_to e ps n) n

-- how many of the first m of the colours f escape
unfoldable pub escapes_of : ℕ → List ℕ → ℕ → ℕ → (ℕ → ℕ) → ℕ
escapes_of tol ps n m f = how_many m (λ j. eqb (index_of tol ps n (f j)) n)
