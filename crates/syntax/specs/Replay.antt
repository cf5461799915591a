-- What a run list stands for: the rules that tie it to the cells' indices along the scan, and the cells that a reader makes of it.
use Rattle.std.specs.Prelude.{◌≡◌, ◌≢◌, Bool, true, false, List, [], ◌∷◌, ◌++◌, ℕ, zero, suc, ◌+◌, ◌*◌, ◌-◌, ◌/◌, ◌≤◌, ◌<◌, ltb, eqb, length, get_or, replicate}
use Rattle.base.specs.Pick.{pick}
use Rattle.h265.specs.Scan.{above_at}
use Rattle.syntax.specs.Runs.{Run, may_copy}

-- the reference of an index run at place i > 0: after a copy-above run the cell above, else the cell before
unfoldable pub reference : ℕ → Bool → List ℕ → ℕ → ℕ
reference size prev xs i = pick prev (above_at size xs i) (get_or xs (i - 1) 0)

-- ---- the run rules, in document 01's words: xs are the block's indices along the scan, m is M

-- the index sent for v: one less where v is above its reference
unfoldable pub less_one : ℕ → ℕ → ℕ
less_one v ref = pick (ltb ref v) (v - 1) v

pub record Copies (size : ℕ) (xs : List ℕ) (scan : ℕ) (prev : Bool) (r : Run) : Type 0 where
  pub may : may_copy size scan prev ≡ true
  pub none : r.sent ≡ 0
  pub cells : (j : ℕ) → j ≤ r.more → get_or xs (scan + j) 0 ≡ above_at size xs (scan + j)

pub record Draws (size m : ℕ) (xs : List ℕ) (scan : ℕ) (prev : Bool) (r : Run) : Type 0 where
  pub first : scan ≡ 0 → (r.sent ≡ get_or xs scan 0) × (r.sent < m + 1)
  pub other : 0 < scan → get_or xs scan 0 ≢ reference size prev xs scan
  pub sent : 0 < scan → r.sent ≡ less_one (get_or xs scan 0) (reference size prev xs scan)
  pub below : 0 < scan → r.sent < m
  pub cells : (j : ℕ) → j ≤ r.more → get_or xs (scan + j) 0 ≡ get_or xs scan 0

pub record Rules (size m : ℕ) (xs : List ℕ) (scan : ℕ) (prev : Bool) (r : Run) : Type 0 where
  pub start : r.start ≡ scan
  pub copies : r.above ≡ true → Copies size xs scan prev r
  pub draws : r.above ≡ false → Draws size m xs scan prev r

abbrev pub Replays : ℕ → ℕ → ℕ → List ℕ → ℕ → Bool → List Run → Type 0
Replays size n m xs scan prev [] = scan ≡ n
Replays size n m xs scan prev (r ∷ rs) = Rules size m xs scan prev r × Replays size n m xs (scan + r.more + 1) r.above rs

-- ---- what a reader makes of the runs: the cells, one run after another

unfoldable pub copy_cells : ℕ → ℕ → List ℕ → List ℕ
copy_cells size zero done = done
copy_cells size (suc m) done = copy_cells size m (done ++ (above_at size done (length done) ∷ []))

-- the index that is sent as i: at and above its reference one more; there is no reference at the start
unfoldable pub index_of : ℕ → Bool → List ℕ → ℕ → ℕ
index_of size prev done i = pick (eqb (length done) 0) i (pick (ltb i (reference size prev done (length done))) i (i + 1))

unfoldable pub replay : ℕ → Bool → List ℕ → List Run → List ℕ
replay size prev done [] = done
replay size prev done (r ∷ rs) =
    let copied : List ℕ = copy_cells size (r.more + 1) done in
    let drawn : List ℕ = done ++ replicate (r.more + 1) (index_of size prev done r.sent) in
    replay size r.above (pick r.above copied drawn) rs
