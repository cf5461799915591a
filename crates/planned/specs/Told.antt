-- When the planner answers runs, and which.
use Rattle.std.specs.Prelude.{◌≡◌, Bool, true, false, List, [], ℕ, ◌+◌, ◌*◌, ◌≤◌, ◌<◌, eqb, Float}
use Rattle.std.proofs.Math.Path.{refl, ap, sym}
use Rattle.std.proofs.Common.{◌∙◌, arith}
use Rattle.std.proofs.Math.Logic.{⊎_elim}
use Rattle.std.specs.Float.{nan}
use Rattle.std.proofs.Math.ListN.{length}
use borrow.Author.Tests.{eqb-true, eqb-false}
use Rattle.base.specs.Pick.{pick, either, true_false, lt_or_le}
use Rattle.base.specs.Tests.{both}
use Rattle.model.specs.declared.PaletteCu.{PaletteCu}
use Rattle.model.specs.declared.PaletteRun.{PaletteRun}
use Rattle.model.specs.Whole.{max_index, block_size_in, holds}
use Rattle.rates.specs.declared.RateModel.{RateModel}
use Rattle.rates.specs.Rates.{rates_in}
use Rattle.paths.specs.Plan.{planned}
use Rattle.finish.specs.Found.{found_of}
use Rattle.plan.specs.Planned.{Plan, Planned, Nothing, Runs, Refused}
use Rattle.plan.specs.Answer.{job_of, plan_with, refused_with, block_plan, plan_of}
use Rattle.plan.specs.AnswerLaws.{block_none, block_short, block_runs, refused_2, refused_6, refused_7, block_is}

unfoldable gives : Planned → Bool
gives Nothing = false
gives (Runs c t) = true
gives (Refused k) = false

unfoldable count_of : Planned → ℕ
count_of Nothing = 0
count_of (Runs c t) = c
count_of (Refused k) = 0

unfoldable total_of : Planned → Float
total_of Nothing = nan
total_of (Runs c t) = t
total_of (Refused k) = nan

-- what the answer of runs c and total t tells
pub record Told (cu : PaletteCu) (m : RateModel) (room : ℕ) (c : ℕ) (t : Float) : Type 0 where
  pub whole : holds 64 cu ≡ true
  pub rates : rates_in m ≡ true
  pub some : 1 ≤ max_index cu
  pub count : c ≡ length (planned (job_of cu m)).runs
  pub total : t ≡ (planned (job_of cu m)).total
  pub plan : plan_of cu m room ≡ plan_with (Runs (length (planned (job_of cu m)).runs) (planned (job_of cu m)).total) (planned (job_of cu m)).runs

module _ (cu : PaletteCu) (m : RateModel) (room : ℕ) where
  pub size_in_lem : holds 64 cu ≡ true → block_size_in cu ≡ true
  unfolding holds
  size_in_lem e = (both (block_size_in cu) _ e).0

  -- the answer where there is room: the runs and their total
  pub answer_is : holds 64 cu ≡ true → rates_in m ≡ true → (max_index cu ≡ 0 → ⊥) → length (planned (job_of cu m)).runs ≤ room
      → plan_of cu m room ≡ plan_with (Runs (length (planned (job_of cu m)).runs) (planned (job_of cu m)).total) (planned (job_of cu m)).runs
  answer_is h r d l = sym (block_runs cu m room (found_of (planned (job_of cu m))) (max_index cu) refl d refl l ∙ block_is cu m room (size_in_lem h) r h)

  module _ (c : ℕ) (t : Float) (e : (plan_of cu m room).answer ≡ Runs c t) where
    not_this : (p : Plan) → p ≡ plan_of cu m room → gives p.answer ≡ false → ⊥
    unfolding gives
    not_this p q f = true_false (sym (ap (λ (x : Plan). gives x.answer) q ∙ ap gives e) ∙ f)

    told : holds 64 cu ≡ true → rates_in m ≡ true → (max_index cu ≡ 0 → ⊥) → length (planned (job_of cu m)).runs ≤ room → Told cu m room c t
    unfolding count_of total_of
    told h r d l =
        let q = answer_is h r d l in
        let a : Runs c t ≡ Runs (length (planned (job_of cu m)).runs) (planned (job_of cu m)).total = sym e ∙ ap (λ (x : Plan). x.answer) q in
        record { whole = h; rates = r; some = positive d; count = ap count_of a; total = ap total_of a; plan = q }
      where
        positive : (max_index cu ≡ 0 → ⊥) → 1 ≤ max_index cu
        positive d = omega (arith, d)

    pub runs_told : Told cu m room c t
    unfolding gives
    runs_told =
        either (block_size_in cu)
        (λ a. either (rates_in m)
        (λ r. either (holds 64 cu)
        (λ h. either (eqb (max_index cu) 0)
        (λ z. absurd (not_this _ (block_none cu m room (eqb-true _ _ z) ∙ block_is cu m room a r h) refl))
        (λ z.
        let d : max_index cu ≡ 0 → ⊥ = eqb-false _ _ z in
        ⊎_elim
        (λ (l : room < length (planned (job_of cu m)).runs). absurd (not_this _ (block_short cu m room (found_of (planned (job_of cu m))) (max_index cu) refl d refl l ∙ block_is cu m room a r h) refl))
        (λ (l : length (planned (job_of cu m)).runs ≤ room). told h r d l)
        (lt_or_le room (length (planned (job_of cu m)).runs))))
        (λ h. absurd (not_this _ (refused_7 cu m room a r h) refl)))
        (λ r. absurd (not_this _ (refused_6 cu m room a r) refl)))
        (λ a. absurd (not_this _ (refused_2 cu m room a) refl))
