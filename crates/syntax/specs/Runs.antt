-- The runs of a block: the rules a run list keeps, the bins of the runs and the reader's way through them.
-- Writer and reader go through the same state: the scan place, the kind of the run before, and the indices sent that are left.
use Rattle.std.specs.Prelude.{◌≡◌, Bool, true, false, List, [], ◌∷◌, ◌++◌, ℕ, zero, suc, ◌+◌, ◌*◌, ◌-◌, ◌/◌, ◌≤◌, ◌<◌, ltb, leb, eqb, length}
use Rattle.base.specs.Pick.{pick}
use Rattle.base.specs.Answer.{Answer, Value, Refused, onward}
use Rattle.h265.specs.Strings.{bit, bin_of, run_bins}
use Rattle.h265.specs.Parse.{bin_at, run_at}
use Rattle.model.specs.declared.PaletteRun as D

-- copy-above or not, the index sent, length - 1, start: the code's own record
abbrev pub Run : Type 0
Run = D.PaletteRun

-- the indices sent: those of the index runs, in order
unfoldable pub sent_of : List Run → List ℕ
sent_of [] = []
sent_of (r ∷ rs) = pick r.above (sent_of rs) (r.sent ∷ sent_of rs)

-- the kind of the last run, that of the run before where there is none
unfoldable pub final_of : Bool → List Run → Bool
final_of prev [] = prev
final_of prev (r ∷ rs) = final_of r.above rs

-- ---- the rules, but for the indices' values: where each run starts, and where it may copy from above

abbrev pub may_copy : ℕ → ℕ → Bool → Bool
may_copy size scan prev = pick prev false (leb size scan)

pub record Rule (size scan : ℕ) (prev : Bool) (r : Run) : Type 0 where
  pub start : r.start ≡ scan
  pub copy : r.above ≡ true → may_copy size scan prev ≡ true
  pub none : r.above ≡ true → r.sent ≡ 0

abbrev pub Keeps : ℕ → ℕ → ℕ → Bool → List Run → Type 0
Keeps size n scan prev [] = scan ≡ n
Keeps size n scan prev (r ∷ rs) = Rule size scan prev r × Keeps size n (scan + r.more + 1) r.above rs

-- ---- palette_run_type_flag: sent, or inferred

unfoldable pub asked : ℕ → ℕ → ℕ → Bool → ℕ → Bool
asked size n scan prev left = pick (may_copy size scan prev) (pick (ltb 0 left) (ltb (scan + 1) n) false) false

unfoldable pub inferred : ℕ → ℕ → Bool → ℕ → Bool
inferred size scan prev left = pick (may_copy size scan prev) (eqb left 0) false

unfoldable pub kind_bins : ℕ → ℕ → ℕ → Bool → ℕ → Bool → List ℕ
kind_bins size n scan prev left above = pick (asked size n scan prev left) (bin_of 1 above) []

unfoldable pub kind_at : ℕ → ℕ → ℕ → Bool → ℕ → List ℕ → ℕ → Answer Bool
kind_at size n scan prev left l p = pick (asked size n scan prev left) (bin_at 1 l p) (Value (inferred size scan prev left) p)

-- ---- the run's length: none is sent for the last run; `left` counts the index runs after this one

abbrev pub same : Bool → Bool → Bool
same true b = b
same false true = false
same false false = true

abbrev pub is_last : ℕ → Bool → Bool → Bool
is_last left fin above = pick (eqb left 0) (same above fin) false

-- what this run must leave free, itself among it: scan + 1 + left + final-run flag; the writer's longest run is the rest
abbrev pub reserved : ℕ → ℕ → Bool → ℕ
reserved scan left fin = scan + 1 + left + bit fin

unfoldable pub more_bins : ℕ → ℕ → ℕ → Bool → Bool → ℕ → ℕ → List ℕ
more_bins n scan left fin above sent more =
    pick (is_last left fin above) [] (run_bins (n - reserved scan left fin) above sent more)

unfoldable pub more_at : ℕ → ℕ → ℕ → Bool → Bool → ℕ → List ℕ → ℕ → Answer ℕ
more_at n scan left fin above sent l p =
    pick (is_last left fin above) (Value (n - (scan + 1)) p)
    (pick (ltb n (reserved scan left fin)) (Refused 12 p) (run_at (n - reserved scan left fin) above sent l p))

-- ---- the runs

unfoldable pub runs_bins : ℕ → ℕ → Bool → ℕ → Bool → List Run → List ℕ
runs_bins size n fin scan prev [] = []
runs_bins size n fin scan prev (r ∷ rs) =
    kind_bins size n scan prev (length (sent_of (r ∷ rs))) r.above
    ++ (more_bins n scan (length (sent_of rs)) fin r.above r.sent r.more
    ++ runs_bins size n fin (scan + r.more + 1) r.above rs)

-- the index sent for a run, and those left after it; an index run when none is left is refused
unfoldable pub next_sent : Bool → List ℕ → ℕ → Answer (ℕ × List ℕ)
next_sent true is p = Value (0, is) p
next_sent false [] p = Refused 12 p
next_sent false (i ∷ is) p = Value (i, is) p

-- the fuel f is at least the cells left
unfoldable pub runs_at : ℕ → ℕ → ℕ → Bool → ℕ → Bool → List ℕ → List ℕ → ℕ → Answer (List Run)
runs_at zero size n fin scan prev is l p = Value [] p
runs_at (suc f) size n fin scan prev is l p =
    let rest : Answer (List Run) =
    onward (kind_at size n scan prev (length is) l p) (λ above q.
    onward (next_sent above is q) (λ i r.
    onward (more_at n scan (length i.1) fin above i.0 l r) (λ more t.
    onward (runs_at f size n fin (scan + more + 1) above i.1 l t) (λ rs u.
    Value (record { above = above; sent = i.0; more = more; start = scan } ∷ rs) u)))) in
    pick (leb n scan) (Value [] p) rest
