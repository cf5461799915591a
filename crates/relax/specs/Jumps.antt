-- The runs from one place by tables: il, how far an index goes on; al, how many cells can be copied; ss, where the next stretch begins.
use Rattle.std.specs.Prelude.{Bool, false, List, ℕ, zero, suc, ◌+◌, ◌-◌, ◌≤◌, eqb, ltb, Float, get_or}
use Rattle.std.specs.Float.{binary32}
use Rattle.std.specs.Float.Ieee.{add}
use Rattle.base.specs.Pick.{pick}
use Rattle.base.specs.Upto.{number}
use Rattle.sums.specs.Sums.{run_from}
use Rattle.paths.specs.Plan.{Table, slot, relaxed}

unfoldable pub length_from : List Float → List Float → ℕ → ℕ → ℕ → ℕ → Float
length_from short full row n p q = pick (eqb q n) (number 0) (run_from short full row (n - p - 1) (q - p - 1))

unfoldable pub copy_from : List Float → List Float → Float → ℕ → ℕ → ℕ → Float
copy_from short full r1 n p q = pick (eqb q n) (number 0) (add binary32 r1 (run_from short full 3 (n - p - 1) (q - p - 1)))

-- the first stop of an index run from p
unfoldable pub first_stop : List ℕ → List ℕ → ℕ → ℕ
first_stop al ss p = pick (eqb (get_or al (p + 1) 0) 0) (get_or ss (p + 1) 0) (p + 1)

-- the next stretch from x on begins at x or later
pub record Skips (ss : List ℕ) (end : ℕ) : Type 0 where
  pub on : (x : ℕ) → 1 ≤ x → x ≤ end → x ≤ get_or ss x 0

-- the stops from q on, below end, each found from the one before; at most f of them
unfoldable pub halted : ℕ → List ℕ → ℕ → (ℕ → Float) → ℕ → Bool → ℕ → Table → Table
halted zero ss end g p k q t = t
halted (suc f) ss end g p k q t =
    let more : Table = halted f ss end g p k (get_or ss (q + 1) 0) (relaxed t (slot q false) (g q) p k) in
    pick (ltb q end) more t

-- the runs from p stay within the n cells
pub record Within (il al ss : List ℕ) (n p : ℕ) : Type 0 where
  pub low : 1 ≤ get_or il p 0
  pub high : p + get_or il p 0 ≤ n
  pub skips : Skips ss n

-- the early stops and the whole length
unfoldable pub drawn : List ℕ → List ℕ → List ℕ → (ℕ → Float) → ℕ → Bool → Table → Table
drawn il al ss g p k t =
    let end : ℕ = p + get_or il p 0 in
    relaxed (halted end ss end g p k (first_stop al ss p) t) (slot end false) (g end) p k
