-- The cells of a block as the planner sees them: where runs can start and how far they go. xs are the indices along the scan, n cells of them in use.
use Rattle.std.specs.Prelude.{Bool, true, false, not, List, [], ◌∷◌, ℕ, zero, suc, ◌+◌, ◌-◌, eqb, leb, get_or}
use Rattle.base.specs.Pick.{pick}
use Rattle.base.specs.Tests.{every, any}
use Rattle.h265.specs.Scan.{above_at}
use Rattle.syntax.specs.Replay.{reference, less_one}

-- cell i can be copied: it lies in row 1 or later and equals the cell above
unfoldable pub copies : ℕ → List ℕ → ℕ → Bool
copies size xs i = every (leb size i ∷ eqb (get_or xs i 0) (above_at size xs i) ∷ [])

-- how many of the k cells from i on pass a test, up to the first that does not
unfoldable pub lasts : (ℕ → Bool) → ℕ → ℕ → ℕ
lasts f zero i = 0
lasts f (suc k) i = let more : ℕ = suc (lasts f k (suc i)) in pick (f i) more 0

-- the cells from p on that have p's index
unfoldable pub index_length : ℕ → List ℕ → ℕ → ℕ
index_length n xs p = lasts (λ i. eqb (get_or xs i 0) (get_or xs p 0)) (n - p) p

-- the cells from p on that can be copied
unfoldable pub above_length : ℕ → ℕ → List ℕ → ℕ → ℕ
above_length size n xs p = lasts (copies size xs) (n - p) p

-- an index run may start at p, where the index is v: it differs from its reference, of which there is none at 0
unfoldable pub draws_from : ℕ → ℕ → ℕ → Bool
draws_from p v ref = pick (eqb p 0) true (not (eqb v ref))

-- the index that it sends
unfoldable pub sent_from : ℕ → ℕ → ℕ → ℕ
sent_from p v ref = pick (eqb p 0) v (less_one v ref)

-- both after a run of kind k
abbrev pub draws : ℕ → List ℕ → ℕ → Bool → Bool
draws size xs p k = draws_from p (get_or xs p 0) (reference size k xs p)

abbrev pub sent_for : ℕ → List ℕ → ℕ → Bool → ℕ
sent_for size xs p k = sent_from p (get_or xs p 0) (reference size k xs p)

-- an index run from p may stop before cell q, short of its whole length, for a copy-above run to take over:
-- one cell on, or where a stretch of cells that can be copied begins
unfoldable pub stops_at : ℕ → List ℕ → ℕ → ℕ → Bool
stops_at size xs p q = every (copies size xs q ∷ any (eqb q (p + 1) ∷ not (copies size xs (q - 1)) ∷ []) ∷ [])
