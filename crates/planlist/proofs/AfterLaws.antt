-- What the planner lays there is room for; what stands in the lent list after it, and what stays.
use Rattle.std.specs.Prelude.{◌≡◌, refl, true, eqb, leb, Float, take, drop}
use mathlib.Core.List.{List, [], ◌∷◌}
use Prim.Native.Nat.{ℕ, ◌*◌, ◌≤◌}
use Rattle.std.proofs.Math.Nat.{mul-le-mul}
use native.Mathlib.Omega.{arith}
use Rattle.std.proofs.Math.ListN.{length}
use Rattle.std.proofs.lemmas.List.{length-replicate}
use Rattle.std.proofs.Math.Seq.{length-sets}
use borrow.Author.Tests.{eqb-true, eqb-false, leb-true}
use Rattle.base.specs.Pick.{either}
use Rattle.base.specs.Refusals.{refused_not}
use Rattle.base.specs.Tests.{refusal}
use Rattle.model.specs.declared.PaletteCu.{PaletteCu}
use Rattle.model.specs.declared.PaletteRun.{PaletteRun}
use Rattle.model.specs.Whole.{max_index, block_size_in, holds}
use Rattle.model.specs.WholeLaws.{whole}
use Rattle.rates.specs.declared.RateModel.{RateModel}
use Rattle.rates.specs.Rates.{rates_in}
use Rattle.walk.specs.Points.{no_run}
use Rattle.plan.specs.Planned.{Plan, Nothing, Runs, Refused}
use Rattle.plan.specs.Answer.{runs_for, answer_for, plan_of}
use Rattle.planned.specs.Planning.{plan-count}
use Rattle.runlist.specs.Lists.{laid_none, laid-front, laid-past, laid-length}
use Rattle.planlist.specs.After.{count_of, counted_of, runs_after}

module _ (cu : PaletteCu) (m : RateModel) where
  -- an answer of runs counts them
  count_for : count_of (answer_for cu m) ≡ length (runs_for cu m)
  unfolding answer_for runs_for count_of
  count_for = either (eqb (max_index cu) 0) (λ e. rw e) (λ e. rw e)

  runs-few : holds 64 cu ≡ true → rates_in m ≡ true → length (runs_for cu m) ≤ 1024
  unfolding runs_for
  runs-few h r =
      let w = whole 64 cu h in
      let few : cu.size * cu.size ≤ 1024 = mul-le-mul w.small w.small in
      either (eqb (max_index cu) 0)
      (λ e. rw e (omega arith))
      (λ e. rw e (let n = plan-count cu m h r (omega (arith, eqb-false (max_index cu) 0 e)) in omega arith))

  module _ (room : ℕ) where
    -- there are 1024 runs beside every answer
    plan-long : length (plan_of cu m room).runs ≡ 1024
    unfolding plan_of
    plan-long =
        let number : ℕ = refusal ((block_size_in cu, 2) ∷ (rates_in m, 6) ∷ (holds 64 cu, 7) ∷ (leb (length (runs_for cu m)) room, 9) ∷ []) in
        either (eqb number 0)
        (λ e. rw (e, length-sets) (length-replicate 1024 no_run))
        (λ e. rw e (length-replicate 1024 no_run))

    pub count_fits : (count_of (plan_of cu m room).answer ≤ 1024) × (count_of (plan_of cu m room).answer ≤ room)
    unfolding plan_of count_of
    count_fits =
        either (eqb (refusal ((block_size_in cu, 2) ∷ (rates_in m, 6) ∷ (holds 64 cu, 7) ∷ (leb (length (runs_for cu m)) room, 9) ∷ [])) 0)
        (λ e.
        let a = refused_not (block_size_in cu) 2 ((rates_in m, 6) ∷ (holds 64 cu, 7) ∷ (leb (length (runs_for cu m)) room, 9) ∷ []) (omega arith) (eqb-true _ 0 e) in
        let b = refused_not (rates_in m) 6 ((holds 64 cu, 7) ∷ (leb (length (runs_for cu m)) room, 9) ∷ []) (omega arith) a.1 in
        let c = refused_not (holds 64 cu) 7 ((leb (length (runs_for cu m)) room, 9) ∷ []) (omega arith) b.1 in
        let d = refused_not (leb (length (runs_for cu m)) room) 9 [] (omega arith) c.1 in
        rw (e, count_for) (runs-few c.0 b.0, leb-true _ _ d.0))
        (λ e. rw e (omega arith, omega arith))

    -- the code's answer, its count and its runs
    pub counted_is : (p : Plan) (n : ℕ) → p ≡ plan_of cu m room → n ≡ count_of p.answer
        → (record { answer = p.answer; count = n; runs = p.runs } ≡ counted_of cu m room) × (n ≤ 1024) × (n ≤ room)
    unfolding counted_of
    counted_is p n e k = rw (k, e) (refl, count_fits.0, count_fits.1)

  module _ (l : List PaletteRun) where
    -- THE LIST IS AS LONG AS IT WAS
    pub after-length : length (runs_after cu m l) ≡ length l
    unfolding runs_after
    after-length = let f = count_fits (length l) in laid-length l _ _ (omega (arith, f.0, plan-long (length l))) f.1

    -- PLANNED RUNS STAND AT ITS FRONT, AND EVERY RECORD PAST THEIR COUNT IS AS IT WAS
    pub after-runs : (c : ℕ) (t : Float) → (plan_of cu m (length l)).answer ≡ Runs c t → (take c (runs_after cu m l) ≡ take c (plan_of cu m (length l)).runs) × (drop c (runs_after cu m l) ≡ drop c l)
    unfolding runs_after count_of
    after-runs c t e =
        let n : c ≤ length (plan_of cu m (length l)).runs = omega (arith, rw e at (count_fits (length l)).0, plan-long (length l)) in
        rw e (laid-front l (plan_of cu m (length l)).runs c n, laid-past l (plan_of cu m (length l)).runs c n)

    -- WITH NOTHING TO CODE, AND ON A REFUSAL, NO RECORD CHANGES
    pub after_nothing : (plan_of cu m (length l)).answer ≡ Nothing → runs_after cu m l ≡ l
    unfolding runs_after count_of
    after_nothing e = rw e (laid_none l _)

    pub after-refused : (k : ℕ) → (plan_of cu m (length l)).answer ≡ Refused k → runs_after cu m l ≡ l
    unfolding runs_after count_of
    after-refused k e = rw e (laid_none l _)
