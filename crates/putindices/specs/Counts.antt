-- Counting a run list: how many index runs are left, and the kind of the last.
use Rattle.std.specs.Prelude.{◌≡◌, refl, Bool, true, false, List, [], ◌∷◌, ℕ, zero, suc, ◌+◌, ◌-◌, ◌≤◌, ◌<◌, length, take, get_or}
use Rattle.std.proofs.Common.{arith}
use Rattle.base.specs.Pick.{pick}
use Rattle.syntax.specs.Runs.{Run, sent_of, final_of}
use Rattle.syntax.specs.Records.{no_run}

pub sent_next : (all : List Run) (r : Run) (rs : List Run) → all ≡ r ∷ rs → length (sent_of all) ≡ length (sent_of rs) + pick r.above 0 1
unfolding sent_of
sent_next all r rs e = rw e (go r.above)
  where
    go : (b : Bool) → length (pick b (sent_of rs) (r.sent ∷ sent_of rs)) ≡ length (sent_of rs) + pick b 0 1
    go true = omega arith
    go false = omega arith

pub sent_none : (all : List Run) → all ≡ [] → length (sent_of all) ≡ 0
unfolding sent_of
sent_none all e = rw e

pub one-most : (b : Bool) → pick b 0 1 ≤ 1
one-most true = omega arith
one-most false = omega arith

final_at : (prev : Bool) (rs : List Run) (j : ℕ) → j < length rs → (get_or rs j no_run).above ≡ final_of prev (take (suc j) rs)
unfolding final_of
final_at prev [] j h = absurd (omega arith)
final_at prev (r ∷ rs) zero h = refl
final_at prev (r ∷ rs) (suc j) h = final_at r.above rs j (omega arith)

-- the kind of the last of the first k runs
pub final_take : (prev : Bool) (rs : List Run) (k : ℕ) → 0 < k → k ≤ length rs → (get_or rs (k - 1) no_run).above ≡ final_of prev (take k rs)
final_take prev rs k o h =
    let e : suc (k - 1) ≡ k = omega arith in
    rw e at (final_at prev rs (k - 1) (omega arith))

pub final_none : (prev : Bool) (rs : List Run) (k : ℕ) → k ≡ 0 → prev ≡ final_of prev (take k rs)
unfolding final_of
final_none prev rs k e = rw e
