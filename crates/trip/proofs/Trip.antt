-- DEMAND 3: what is planned and written is what is read.
use Rattle.std.specs.Prelude.{true, false, List, [], ◌≡◌, ℕ, ◌*◌, ◌≤◌, ◌<◌, eqb, length, take}
use Rattle.std.proofs.Common.{ap, sym, ◌∙◌, mul-le-mul, arith, le-leb, eqb-true, ne_eqb}
use Rattle.std.proofs.lemmas.Bool.{eqb-false}
use Rattle.base.specs.Pick.{either}
use Rattle.base.specs.Tests.{both}
use Rattle.model.specs.Whole.{max_index, block_size_in, holds}
use Rattle.model.specs.WholeLaws.{whole}
use Rattle.model.specs.declared.PaletteCu.{PaletteCu}
use Rattle.model.specs.declared.PalettePredictor.{PalettePredictor}
use Rattle.plan.specs.Planned.{Plan}
use Rattle.plan.specs.Answer.{runs_for, answer_for, plan_with, plan_of}
use Rattle.plan.specs.AnswerLaws.{block_is}
use Rattle.planlist.specs.After.{count_of}
use Rattle.finish.specs.Front.{front-runs}
use Rattle.planned.specs.Planning.{plan-rules, plan-keeps, plan-alphabets, plan-count}
use Rattle.planned.specs.Planning as P
use Rattle.rates.specs.Rates.{rates_in}
use Rattle.rates.specs.declared.RateModel.{RateModel}
use Rattle.syntax.specs.Runs.{Run}
use Rattle.syntax.specs.Test.{rules-replays}
use Rattle.write.specs.Laws.{runs_ignored, runs_tested}
use Rattle.write.specs.Write.{bins_of, runs_hold}
use Rattle.eyes.specs.Ready.{Ready, Arrays}
use Rattle.trip.specs.Demand.{Covers, RoundTrip}
use Rattle.trip.specs.Covers.{covers}
use Rattle.trip.proofs.Written.{write_read}

-- ---- the plan's runs

module _ (cu : PaletteCu) (m : RateModel) (h : holds 64 cu ≡ true) (rates : rates_in m ≡ true) where
  runs-some : (max_index cu ≡ 0 → ⊥) → runs_for cu m ≡ P.runs cu m
  unfolding runs_for
  runs-some d = rw (ne_eqb (max_index cu) 0 d)

  runs_none : max_index cu ≡ 0 → runs_for cu m ≡ []
  unfolding runs_for
  runs_none e = rw e

  -- no more than an array takes
  pub few : length (runs_for cu m) ≤ 1024
  few =
      either (eqb (max_index cu) 0)
      (λ t. rw (runs_none (eqb-true _ _ t)) (omega arith))
      (λ t.
      let d = eqb-false (max_index cu) 0 t in
      let w = whole 64 cu h in
      let q : cu.size * cu.size ≤ 32 * 32 = mul-le-mul w.small w.small in
      rw (runs-some d) (omega (arith, plan-count cu m h rates (omega (arith, d)))))

  -- they keep the rules, in any list that starts with them
  pub runs_hold_lem : (runs : List Run) (count : ℕ) → take count runs ≡ runs_for cu m → count ≤ 1024 → runs_hold cu runs count ≡ true
  runs_hold_lem runs count e l =
      either (eqb (max_index cu) 0)
      (λ t. sym (runs_ignored cu runs count (eqb-true _ _ t)))
      (λ t.
      let d = eqb-false (max_index cu) 0 t in
      let o : 0 < max_index cu = omega (arith, d) in
      sym (runs_tested cu runs count true o l
      (sym (rw (e, runs-some d) (rules-replays cu.size (cu.size * cu.size) (max_index cu) (take (cu.size * cu.size) cu.indices) 0 false (P.runs cu m) (plan-rules cu m h rates o))))))

  -- and cover the scan
  pub runs_cover : 0 < max_index cu → Covers cu (runs_for cu m)
  runs_cover o = rw (runs-some (λ e. omega arith)) (covers cu (P.runs cu m) (plan-keeps cu m h rates o) (plan-alphabets cu m h rates o))

  answer-count : count_of (answer_for cu m) ≡ length (runs_for cu m)
  unfolding count_of answer_for runs_for
  answer-count = either (eqb (max_index cu) 0) (λ t. rw t) (λ t. rw t)

  -- ---- what plan_runs answers where there is room for them

  module _ (room : ℕ) (fit : length (runs_for cu m) ≤ room) where
    size_in_lem : block_size_in cu ≡ true
    unfolding holds
    size_in_lem = (both (block_size_in cu) _ h).0

    pub plan-is : plan_of cu m room ≡ plan_with (answer_for cu m) (runs_for cu m)
    plan-is = sym (block_is cu m room size_in_lem rates h) ∙ rw (le-leb (length (runs_for cu m)) room fit)

    pub count-is : count_of (plan_of cu m room).answer ≡ length (runs_for cu m)
    count-is = ap (λ (x : Plan). count_of x.answer) plan-is ∙ answer-count

    pub runs_are : take (count_of (plan_of cu m room).answer) (plan_of cu m room).runs ≡ runs_for cu m
    runs_are = ap (λ (k : ℕ). take k (plan_of cu m room).runs) count-is ∙ ap (λ (x : Plan). take (length (runs_for cu m)) x.runs) plan-is ∙ front-runs (runs_for cu m) few

-- THE ROUND TRIP. For a block that holds together, with one flag for each entry of a valid predictor, whose palette starts with the colours its flags mark in the predictor, in order (`Ready`),
-- rates from 0 to 64, and room in the lists: for the planned runs, for the block's bins, and for n runs at the reader
pub round_trip : (cu : PaletteCu) (p : PalettePredictor) → Arrays p cu → Ready p cu
    → (m : RateModel) (room : ℕ) (list : List ℕ) (space : ℕ) (rest : List ℕ)
    → rates_in m ≡ true → length (runs_for cu m) ≤ room → length (bins_of cu (runs_for cu m)) ≤ length list → cu.size * cu.size ≤ space
    → RoundTrip cu p m room list space rest
round_trip cu p a ready m room list space rest rates fit wide far =
    let h = ready.whole in
    let e = runs_are cu m h rates room fit in
    let k = runs_hold_lem cu m h rates (plan_of cu m room).runs (count_of (plan_of cu m room).answer) e (rw (count-is cu m h rates room fit) (few cu m h rates)) in
    record {
      answered = ap (λ (x : Plan). x.answer) (plan-is cu m h rates room fit);
      covers = λ o. rw e (runs_cover cu m h rates o);
      trip = write_read cu p (plan_of cu m room).runs (count_of (plan_of cu m room).answer) list space rest a ready k (rw e wide) far;
    }
