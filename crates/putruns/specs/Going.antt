-- The state of the writer's run loop, and one turn of it.
use Rattle.std.specs.Prelude.{◌≡◌, Bool, true, false, List, ◌∷◌, ◌++◌, ℕ, ◌+◌, ◌≤◌, length}
use Rattle.std.proofs.Common.{arith}
use Rattle.base.specs.Pick.{pick}
use Rattle.syntax.specs.Runs.{Run, Keeps, sent_of, final_of, kind_bins, more_bins, runs_bins}
use Rattle.syntax.specs.KeepLaws.{keeps_le, keeps-room}
use Rattle.syntax.specs.RunsLaws.{MoreOk}
use Rattle.syntax.proofs.RunsLaws.{keeps-more}

pub record Going (size n : ℕ) (fin : Bool) (scan : ℕ) (prev : Bool) (left : ℕ) (rs : List Run) : Type 0 where
  pub keeps : Keeps size n scan prev rs
  pub final : final_of prev rs ≡ fin
  pub sum : left ≡ length (sent_of rs)

-- a run r is next, and rs are the rest
pub record Turn (size n : ℕ) (fin : Bool) (scan : ℕ) (prev : Bool) (left : ℕ) (r : Run) (rs : List Run) : Type 0 where
  pub inside : scan + r.more + 1 ≤ n
  pub used : pick r.above 0 1 ≤ left
  pub small : left ≤ n
  pub ok : (after : ℕ) → after + pick r.above 0 1 ≡ left → MoreOk n scan after fin r.above r.more
  pub next : (after : ℕ) → after + pick r.above 0 1 ≡ left → Going size n fin (scan + r.more + 1) r.above after rs
  pub bins : (after : ℕ) → after + pick r.above 0 1 ≡ left →
      runs_bins size n fin scan prev (r ∷ rs) ≡ kind_bins size n scan prev left r.above ++ (more_bins n scan after fin r.above r.sent r.more ++ runs_bins size n fin (scan + r.more + 1) r.above rs)

sent_length : (r : Run) (rs : List Run) → length (sent_of (r ∷ rs)) ≡ length (sent_of rs) + pick r.above 0 1
unfolding sent_of
sent_length r rs = go r.above
  where
    go : (b : Bool) → length (pick b (sent_of rs) (r.sent ∷ sent_of rs)) ≡ length (sent_of rs) + pick b 0 1
    go true = omega arith
    go false = omega arith

pub going_turn : (size n : ℕ) (fin : Bool) (scan : ℕ) (prev : Bool) (left : ℕ) (all : List Run) (r : Run) (rs : List Run) → all ≡ r ∷ rs → Going size n fin scan prev left all → Turn size n fin scan prev left r rs
unfolding runs_bins final_of
going_turn size n fin scan prev left all r rs e h =
    let g : Going size n fin scan prev left (r ∷ rs) = rw e at h in
    let s : (after : ℕ) → after + pick r.above 0 1 ≡ left → after ≡ length (sent_of rs) = λ after a. omega (arith, sent_length r rs, g.sum) in
    record {
      inside = keeps_le size n (scan + r.more + 1) r.above rs g.keeps.1;
      used = omega (arith, sent_length r rs, g.sum);
      small = omega (arith, g.sum, keeps-room size n scan prev r rs g.keeps);
      ok = λ after a. rw (s after a) (keeps-more size n scan prev fin r rs g.keeps g.final);
      next = λ after a. record { keeps = g.keeps.1; final = g.final; sum = s after a };
      bins = λ after a. rw (s after a, g.sum);
    }
