-- What a call answers and leaves where its block holds together.
use Rattle.std.specs.Prelude.{◌≡◌, true, false, List, ℕ, ◌*◌, ◌/◌, ◌≤◌, ◌<◌, length, set}
use Rattle.std.proofs.Math.Path.{refl}
use Rattle.std.proofs.Common.{◌∙◌}
use Rattle.std.specs.Float.{binary32}
use Rattle.std.specs.Float.Ieee.{of_bits}
use Rattle.std.proofs.lemmas.List.Edits.{sets}
use Rattle.base.specs.Tests.{both}
use Rattle.finish.specs.Front.{front-runs}
use Rattle.finish.specs.Found.{blank_runs, found_of, laid_runs}
use Rattle.flatplan.specs.Flat.{flat_runs}
use Rattle.model.specs.declared.PaletteCu.{PaletteCu}
use Rattle.model.specs.declared.PaletteRun.{PaletteRun}
use Rattle.model.specs.Whole.{max_index, block_size_in, holds}
use Rattle.paths.specs.Plan.{job, price_of, planned}
use Rattle.plan.specs.Planned.{Nothing, Runs}
use Rattle.plan.specs.Answer.{refused_with, plan_of}
use Rattle.plan.specs.AnswerLaws.{block_none, block_short, block_runs, refused_6, block_is}
use Rattle.rates.specs.declared.RateModel.{RateModel}
use Rattle.rates.specs.Rates.{rates_in}
use Rattle.exports_plan.specs.Calls.{Lent, plan_laid}

module _ (cu : PaletteCu) (m : RateModel) (l : Lent) (h : holds 64 cu ≡ true) where
  s : block_size_in cu ≡ true
  unfolding holds
  s = (both (block_size_in cu) _ h).0

  pub out_6 : rates_in m ≡ false → (6, l) ≡ plan_laid (plan_of cu m (length l.runs / 4)).answer (plan_of cu m (length l.runs / 4)).runs l
  unfolding plan_laid
  out_6 r = rw (← refused_6 cu m (length l.runs / 4) s r)

  module _ (r : rates_in m ≡ true) where
    pub out_none : max_index cu ≡ 0 → (0, record { runs = l.runs; count = set l.count 0 0; total = set l.total 0 (of_bits binary32 0) }) ≡ plan_laid (plan_of cu m (length l.runs / 4)).answer (plan_of cu m (length l.runs / 4)).runs l
    unfolding plan_laid
    out_none z =
        let e : record { answer = Nothing; runs = blank_runs } ≡ plan_of cu m (length l.runs / 4) = block_none cu m (length l.runs / 4) z ∙ block_is cu m (length l.runs / 4) s r h in
        rw (← e)

    module _ (k : ℕ) (is : k ≡ max_index cu) (some : k ≡ 0 → ⊥) where
      abbrev pub runs_for : List PaletteRun
      runs_for = (planned (job cu.size (cu.size * cu.size) k cu.indices (price_of m k))).runs

      pub out-short : length l.runs / 4 < length runs_for → (9, l) ≡ plan_laid (plan_of cu m (length l.runs / 4)).answer (plan_of cu m (length l.runs / 4)).runs l
      unfolding plan_laid
      out-short o =
          let e : refused_with 9 ≡ plan_of cu m (length l.runs / 4) = block_short cu m (length l.runs / 4) (found_of (planned (job cu.size (cu.size * cu.size) k cu.indices (price_of m k)))) k is some refl o ∙ block_is cu m (length l.runs / 4) s r h in
          rw (← e)

      pub out-runs : length runs_for ≤ length l.runs / 4 → length runs_for ≤ 1024
          → (0, record { runs = sets l.runs 0 (flat_runs runs_for); count = set l.count 0 (length runs_for); total = set l.total 0 (planned (job cu.size (cu.size * cu.size) k cu.indices (price_of m k))).total }) ≡ plan_laid (plan_of cu m (length l.runs / 4)).answer (plan_of cu m (length l.runs / 4)).runs l
      unfolding plan_laid
      out-runs o few =
          let e : record { answer = Runs (length runs_for) (planned (job cu.size (cu.size * cu.size) k cu.indices (price_of m k))).total; runs = laid_runs runs_for } ≡ plan_of cu m (length l.runs / 4) = block_runs cu m (length l.runs / 4) (found_of (planned (job cu.size (cu.size * cu.size) k cu.indices (price_of m k)))) k is some refl o ∙ block_is cu m (length l.runs / 4) s r h in
          rw (← e, front-runs runs_for few)
