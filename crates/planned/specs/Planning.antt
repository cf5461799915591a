-- THE THEOREMS OF THE PLANNER: what holds of the plan of every block that holds together with M above 0, for rates from 0 to 64.
-- The run rules and the replay are those of syntax, written from H.265.
use Rattle.std.specs.Prelude.{◌≡◌, refl, Bool, true, false, List, [], ◌⊎◌, ℕ, ◌+◌, ◌*◌, ◌≤◌, ◌<◌, Float, length, take}
use Rattle.std.proofs.Common.{ap, sym, ◌∙◌, mul-le-mul, zero-add, arith}
use Rattle.std.specs.Float.Ieee.{lt}
use Rattle.base.specs.Upto.{Upto}
use Rattle.model.specs.declared.PaletteCu.{PaletteCu}
use Rattle.model.specs.declared.PaletteRun.{PaletteRun}
use Rattle.model.specs.Whole.{max_index, holds}
use Rattle.model.specs.WholeLaws.{whole}
use Rattle.rates.specs.declared.RateModel.{RateModel}
use Rattle.rates.specs.Rates.{rates_in}
use Rattle.sums.specs.Finite.{type_upto, run_upto, shares_upto}
use Rattle.syntax.specs.KeepLaws.{keeps-count}
use Rattle.syntax.specs.Runs.{Keeps, sent_of}
use Rattle.syntax.specs.Replay.{Replays, replay}
use Rattle.syntax.specs.ReplayLaws.{Alphabets}
use Rattle.syntax.proofs.ReplayLaws.{rules_keep, rules-alphabets}
use Rattle.paths.specs.Plan.{Table, price_of, infinite, swept, fresh, last_kind, planned}
use Rattle.paths.specs.Edges.{cost_of}
use Rattle.paths.specs.TableLaws.{cost_at, Reached}
use Rattle.plan.specs.Planned.{Runs}
use Rattle.plan.specs.Answer.{job_of, plan_with, plan_of}
use Rattle.plan.specs.AnswerLaws.{most_in}
use Rattle.covers.specs.Reach.{Fair, reached_upto, done-kept, cost_upto}
use Rattle.covers.specs.Covers.{chosen-reached, planned-rules, planned-replay, total_finite}
use Rattle.covers.specs.Least.{entry_at, best, least}
use Rattle.finish.specs.Front.{front-runs}
use Rattle.planned.specs.Told.{answer_is, runs_told}

-- n, the block's indices along the scan, the planned runs, and the table that the sweep leaves
abbrev pub cells : PaletteCu → ℕ
cells cu = cu.size * cu.size

abbrev pub indices : PaletteCu → List ℕ
indices cu = take (cells cu) cu.indices

abbrev pub runs : PaletteCu → RateModel → List PaletteRun
runs cu m = (planned (job_of cu m)).runs

abbrev pub table : PaletteCu → RateModel → Table
table cu m = swept (job_of cu m) (cells cu * 2) fresh

-- rates from 0 to 64 keep sums finite
fair_prices : (m : RateModel) (most : ℕ) → rates_in m ≡ true → most ≤ 64 → Fair (price_of m most)
fair_prices m most e h = record {
  index = (type_upto m e).0;
  above = (type_upto m e).1;
  share = shares_upto most h;
  run = λ longest above sent more a b. run_upto m longest above sent more e a b;
}

module _ (cu : PaletteCu) (m : RateModel) (whole-block : holds 64 cu ≡ true) (rates : rates_in m ≡ true) (some : 1 ≤ max_index cu) where
  size_some : 1 ≤ cu.size
  size_some = (whole 64 cu whole-block).least

  few : cells cu ≤ 1024
  few = let w = whole 64 cu whole-block in mul-le-mul w.small w.small

  most : max_index cu ≤ 64
  most = most_in cu whole-block

  fair : Fair (price_of m (max_index cu))
  fair = fair_prices m (max_index cu) rates most

  -- ALL PATH COSTS ARE FINITE: each cost of the table is the infinity of a slot that no path reaches, or a number from 0 to 1024 for each cell passed
  pub plan_costs : (q : ℕ) (k : Bool) → q ≤ cells cu → (cost_at (table cu m) q k ≡ infinite) ⊎ Upto (1024 * q) (cost_at (table cu m) q k)
  plan_costs = (done-kept (job_of cu m) few most some fair).priced

  -- and so is each cost that is offered: no comparison meets a NaN
  pub plan-offered : (p : ℕ) (l : Bool) (q : ℕ) (k : Bool) → p < q → q ≤ cells cu → Reached (table cu m) p l → Upto (1024 * q) (cost_of (job_of cu m) p l (cost_at (table cu m) p l) q k)
  plan-offered p l q k low high r =
      cost_upto (job_of cu m) few most some fair p l (cost_at (table cu m) p l) q k low high
      (reached_upto (job_of cu m) (table cu m) p l (done-kept (job_of cu m) few most some fair) (omega arith) r)

  -- THE LAST PLACE IS REACHED, by the end that is chosen, and the total is a number
  pub plan_reaches : Reached (table cu m) (cells cu) (last_kind (job_of cu m) (table cu m))
  plan_reaches = chosen-reached (job_of cu m) few most some fair

  pub plan_finite : lt (planned (job_of cu m)).total infinite ≡ true
  plan_finite = total_finite (job_of cu m) few most some fair

  -- THE RUNS KEEP THE RUN RULES of syntax for this block: each starts where the one before ended, from 0 to n; none copies from above in row 0 or straight after another that did;
  -- a copy-above run copies; an index sent is below its alphabet, M + 1 at start 0 and M later, is told by its reference, and the value differs from the reference
  pub plan-rules : Replays cu.size (cells cu) (max_index cu) (indices cu) 0 false (runs cu m)
  plan-rules = planned-rules (job_of cu m) few most some fair size_some (whole 64 cu whole-block).index

  -- the same without the block's indices: they cover the scan once, from 0 to n
  pub plan-keeps : Keeps cu.size (cells cu) 0 false (runs cu m)
  plan-keeps = rules_keep cu.size (cells cu) (max_index cu) (indices cu) 0 false (runs cu m) plan-rules

  -- and the indices sent are below their alphabets
  pub plan-alphabets : Alphabets (max_index cu) 0 (sent_of (runs cu m))
  plan-alphabets = rules-alphabets cu.size (cells cu) (max_index cu) (indices cu) 0 false (runs cu m) size_some plan-rules

  -- they are no more than the cells
  pub plan-count : length (runs cu m) ≤ cells cu
  plan-count = let h : 0 + length (runs cu m) ≤ cells cu = keeps-count cu.size (cells cu) 0 false (runs cu m) plan-keeps in rw (zero-add (length (runs cu m))) at h

  -- REPLAYED, THEY GIVE THE BLOCK'S INDICES
  pub plan-replay : length cu.indices ≡ 1024 → replay cu.size false [] (runs cu m) ≡ indices cu
  plan-replay e = planned-replay (job_of cu m) few most some fair size_some (whole 64 cu whole-block).index (omega (arith, few))

  -- EACH ENTRY OF THE TABLE IS THE FIRST CHEAPEST of the offers to its slot, in the order of the slots that they come from: a later one takes its place only where it is strictly cheaper
  pub plan-least : (q : ℕ) (k : Bool) → entry_at (table cu m) q k ≡ best (job_of cu m) (table cu m) q k (cells cu * 2)
  plan-least = least (job_of cu m) few

-- ---- the same of what plan_runs answers

-- EVERY BLOCK that holds together with M above 0 IS PLANNED, for rates from 0 to 64 and a list with room for n runs
pub answered : (cu : PaletteCu) (m : RateModel) (room : ℕ) → holds 64 cu ≡ true → rates_in m ≡ true → 1 ≤ max_index cu → cells cu ≤ room
    → plan_of cu m room ≡ plan_with (Runs (length (runs cu m)) (planned (job_of cu m)).total) (runs cu m)
answered cu m room h r o l = let c = plan-count cu m h r o in answer_is cu m room h r (λ z. omega arith) (omega arith)

-- WHATEVER PLAN IS ANSWERED, the runs at the front of the array keep the rules and replay to the block's indices, and the total is a number
pub record Sound (cu : PaletteCu) (rs : List PaletteRun) : Type 0 where
  pub rules : Replays cu.size (cells cu) (max_index cu) (indices cu) 0 false rs
  pub keeps : Keeps cu.size (cells cu) 0 false rs
  pub replays : length cu.indices ≡ 1024 → replay cu.size false [] rs ≡ indices cu

pub answered-sound : (cu : PaletteCu) (m : RateModel) (room c : ℕ) (t : Float) → (plan_of cu m room).answer ≡ Runs c t → Sound cu (take c (plan_of cu m room).runs) × (lt t infinite ≡ true)
answered-sound cu m room c t e =
    let w = runs_told cu m room c t e in
    let few : cells cu ≤ 1024 = small cu.size (whole 64 cu w.whole).small in
    let n = plan-count cu m w.whole w.rates w.some in
    let f : take c (plan_of cu m room).runs ≡ runs cu m = rw (w.plan, w.count) (front-runs (runs cu m) (omega arith)) in
    (rw f (sound w.whole w.rates w.some), rw w.total (plan_finite cu m w.whole w.rates w.some))
  where
    small : (s : ℕ) → s ≤ 32 → s * s ≤ 1024
    small s h = mul-le-mul h h

    sound : holds 64 cu ≡ true → rates_in m ≡ true → 1 ≤ max_index cu → Sound cu (runs cu m)
    sound h r o = record { rules = plan-rules cu m h r o; keeps = plan-keeps cu m h r o; replays = plan-replay cu m h r o }
