-- What the planner's functions want of the definitions.
use Rattle.std.specs.Prelude.{◌≡◌, Bool, true, false, ℕ, ◌+◌, ◌*◌, ◌-◌, ◌≤◌, ◌<◌, leb, length}
use Rattle.std.proofs.Common.{ap, ◌∙◌, arith}
use borrow.Author.Tests.{ne_eqb, le-leb, lt-leb}
use Rattle.base.specs.Pick.{either}
use Rattle.h265.specs.Strings.{bit}
use Rattle.model.specs.declared.PaletteCu.{PaletteCu}
use Rattle.model.specs.Whole.{max_index, block_size_in, holds}
use Rattle.model.specs.WholeLaws.{whole}
use Rattle.rates.specs.declared.RateModel.{RateModel}
use Rattle.rates.specs.Rates.{rates_in}
use Rattle.paths.specs.Plan.{job, price_of, planned}
use Rattle.finish.specs.declared.Found.{Found}
use Rattle.finish.specs.Found.{blank_runs, found_of}
use Rattle.plan.specs.Planned.{Nothing, Runs}
use Rattle.plan.specs.Answer.{job_of, refused_with, runs_for, answer_for, plan_of, block_plan}

-- ---- a block that holds together

module _ (cu : PaletteCu) (m : RateModel) (room : ℕ) where
  pub block_none : max_index cu ≡ 0 → record { answer = Nothing; runs = blank_runs } ≡ block_plan cu m room
  unfolding runs_for answer_for
  block_none e = rw (e, le-leb 0 room (omega arith))

  runs-some : (max_index cu ≡ 0 → ⊥) → runs_for cu m ≡ (planned (job_of cu m)).runs
  unfolding runs_for
  runs-some d = rw (ne_eqb (max_index cu) 0 d)

  answer-some : (max_index cu ≡ 0 → ⊥) → answer_for cu m ≡ Runs (length (planned (job_of cu m)).runs) (planned (job_of cu m)).total
  unfolding answer_for
  answer-some d = rw (runs-some d, ne_eqb (max_index cu) 0 d)

  -- what is found for M, which the code has as k
  found_for : (f : Found) (k : ℕ) → k ≡ max_index cu → f ≡ found_of (planned (job cu.size (cu.size * cu.size) k cu.indices (price_of m k))) → f ≡ found_of (planned (job_of cu m))
  found_for f k e h = h ∙ ap (λ (x : ℕ). found_of (planned (job cu.size (cu.size * cu.size) x cu.indices (price_of m x)))) e

  some : (k : ℕ) → k ≡ max_index cu → (k ≡ 0 → ⊥) → max_index cu ≡ 0 → ⊥
  some k e d z = d (e ∙ z)

  pub block_short : (f : Found) (k : ℕ) → k ≡ max_index cu → (k ≡ 0 → ⊥) → f ≡ found_of (planned (job cu.size (cu.size * cu.size) k cu.indices (price_of m k))) → room < f.count → refused_with 9 ≡ block_plan cu m room
  block_short f k e d h l =
      let o : room < length (planned (job_of cu m)).runs = rw (found_for f k e h) at l in
      rw (runs-some (some k e d), lt-leb (length (planned (job_of cu m)).runs) room o)

  pub block_runs : (f : Found) (k : ℕ) → k ≡ max_index cu → (k ≡ 0 → ⊥) → f ≡ found_of (planned (job cu.size (cu.size * cu.size) k cu.indices (price_of m k))) → f.count ≤ room
      → record { answer = Runs f.count f.total; runs = f.runs } ≡ block_plan cu m room
  block_runs f k e d h l =
      let o : length (planned (job_of cu m)).runs ≤ room = rw (found_for f k e h) at l in
      rw (found_for f k e h, runs-some (some k e d), answer-some (some k e d), le-leb (length (planned (job_of cu m)).runs) room o)

  -- ---- the tests, in their order

  pub refused_2 : block_size_in cu ≡ false → refused_with 2 ≡ plan_of cu m room
  unfolding plan_of
  refused_2 a = rw a

  pub refused_6 : block_size_in cu ≡ true → rates_in m ≡ false → refused_with 6 ≡ plan_of cu m room
  unfolding plan_of
  refused_6 a b = rw (a, b)

  pub refused_7 : block_size_in cu ≡ true → rates_in m ≡ true → holds 64 cu ≡ false → refused_with 7 ≡ plan_of cu m room
  unfolding plan_of
  refused_7 a b c = rw (a, b, c)

  pub block_is : block_size_in cu ≡ true → rates_in m ≡ true → holds 64 cu ≡ true → block_plan cu m room ≡ plan_of cu m room
  unfolding plan_of
  block_is a b c = rw (a, b, c) (either (leb (length (runs_for cu m)) room) (λ t. rw t) (λ t. rw t))

pub max_index_lem : (cu : PaletteCu) (k : ℕ) → k ≡ cu.palette_size + bit cu.escape_present - 1 → k ≡ max_index cu
unfolding max_index
max_index_lem cu k e = e

pub most_in : (cu : PaletteCu) → holds 64 cu ≡ true → max_index cu ≤ 64
unfolding max_index
most_in cu e = most cu.escape_present
  where
    most : (b : Bool) → cu.palette_size + bit b - 1 ≤ 64
    most true = omega (arith, (whole 64 cu e).entries)
    most false = omega (arith, (whole 64 cu e).entries)
