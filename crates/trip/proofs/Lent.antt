-- DEMAND 3 through lists that the caller lends: a run list filled by plan_runs and walked by write_palette_cu, a bin list, and a run list filled by read_palette_cu.
use Rattle.std.specs.Prelude.{true, List, ◌++◌, ◌≡◌, ℕ, ◌+◌, ◌*◌, ◌≤◌, ◌<◌, length}
use Rattle.std.proofs.Math.Path.{refl}
use Rattle.std.proofs.Common.{ap, ◌∙◌}
use Rattle.std.proofs.Math.ListN.{take, drop}
use Rattle.std.proofs.Math.Seq.{take-length}
use Rattle.model.specs.Whole.{max_index, holds}
use Rattle.model.specs.declared.PaletteCu.{PaletteCu}
use Rattle.model.specs.declared.PalettePredictor.{PalettePredictor}
use Rattle.model.specs.declared.PaletteRun.{PaletteRun}
use Rattle.plan.specs.Planned.{Plan, Planned, Nothing, Runs, Refused}
use Rattle.plan.specs.Answer.{runs_for, answer_for, plan_of}
use Rattle.planlist.specs.After.{count_of, runs_after}
use Rattle.planlist.proofs.AfterLaws.{after-runs, after_nothing, after-refused}
use Rattle.rates.specs.Rates.{rates_in}
use Rattle.rates.specs.declared.RateModel.{RateModel}
use Rattle.readlist.specs.After.{CuRead, cu_read_of}
use Rattle.readlist.specs.After as R
use Rattle.readlist.specs.AfterLaws as L
use Rattle.write.specs.Write.{bins_of, write_of, list_after}
use Rattle.write.specs.Written.{Written}
use Rattle.eyes.specs.Ready.{Ready, Arrays}
use Rattle.trip.specs.Demand.{Covers, Same, runs_sent}
use Rattle.trip.proofs.Trip.{few, runs_hold_lem, runs_cover, plan-is, runs_are}
use Rattle.trip.proofs.Written.{write_read}

module _ (cu : PaletteCu) (p : PalettePredictor) (m : RateModel) (list : List PaletteRun) (bins : List ℕ) (other : List PaletteRun) (rest : List ℕ) where
  -- plan_runs' answer, the run list after it, and the runs in it that the answer counts, which are lent to write_palette_cu
  abbrev pub answer : Planned
  answer = (plan_of cu m (length list)).answer

  abbrev pub planned : List PaletteRun
  planned = runs_after cu m list

  abbrev pub runs : List PaletteRun
  runs = take (count_of answer) planned

  -- write_palette_cu's answer, and the bin list after it
  abbrev pub wrote : Written
  wrote = write_of cu runs (length runs) (length bins)

  abbrev pub after : List ℕ
  after = list_after cu runs (length runs) bins

  -- read_palette_cu's answer on the writer's bins, with that predictor, whatever bins follow them, and the run list after it
  abbrev pub read : CuRead
  read = cu_read_of cu.size cu.chroma_idc cu.bd_luma cu.bd_chroma cu.lossless p (length other) (take wrote.bins after ++ rest)

  abbrev pub listed : List PaletteRun
  listed = R.runs_after cu.size cu.chroma_idc cu.bd_luma cu.bd_chroma cu.lossless p (take wrote.bins after ++ rest) other

  pub record LentTrip : Type 0 where
    -- nothing to code where M is 0, else the runs and their total: no refusal
    pub answered : answer ≡ answer_for cu m
    -- every record past their count is as it was
    pub past : drop (count_of answer) planned ≡ drop (count_of answer) list
    -- if M > 0 the planned runs cover the scan once, none copies from above in the first row or straight after another that did, each index sent is below its alphabet
    pub covers : 0 < max_index cu → Covers cu runs
    -- nothing is refused, and the block's bins stand at the start of the bin list; what stood behind them still does
    pub written : wrote ≡ record { refusal = 0; bins = length (bins_of cu runs) }
    pub laid : after ≡ bins_of cu runs ++ drop wrote.bins bins
    -- they are read back as the block, and exactly they are used
    pub accepted : read.refusal ≡ 0
    pub block : Same cu read.cu
    pub used : read.used ≡ wrote.bins
    -- its runs stand at the start of the reader's list, and every record past them is as it was
    pub count : read.count ≡ length (runs_sent cu runs)
    pub back : take read.count listed ≡ runs_sent cu runs
    pub kept : drop read.count listed ≡ drop read.count other

  -- ---- the runs in the planner's list

  module _ (h : holds 64 cu ≡ true) (rates : rates_in m ≡ true) (fit : length (runs_for cu m) ≤ length list) where
    -- as the array beside the answer has them
    fronts : (take (count_of answer) planned ≡ take (count_of answer) (plan_of cu m (length list)).runs) × (drop (count_of answer) planned ≡ drop (count_of answer) list)
    unfolding count_of
    fronts = go answer refl
      where
        go : (a : Planned) → answer ≡ a → (take (count_of answer) planned ≡ take (count_of answer) (plan_of cu m (length list)).runs) × (drop (count_of answer) planned ≡ drop (count_of answer) list)
        go Nothing e = rw (e, after_nothing cu m list e) (refl, refl)
        go (Runs c t) e = rw e (after-runs cu m list c t e)
        go (Refused k) e = rw (e, after-refused cu m list k e) (refl, refl)

    runs_is : runs ≡ runs_for cu m
    runs_is = fronts.0 ∙ runs_are cu m h rates (length list) fit

  -- THE ROUND TRIP, in the forms with lent lists. For a block that holds together, with one flag for each entry of a valid predictor, whose palette starts with the colours its flags mark in the predictor, in order (`Ready`),
  -- rates from 0 to 64, and room in the lists: for the planned runs, for the block's bins, and for n runs at the reader
  pub lent_trip : Arrays p cu → Ready p cu → rates_in m ≡ true → length (runs_for cu m) ≤ length list → length (bins_of cu (runs_for cu m)) ≤ length bins → cu.size * cu.size ≤ length other → LentTrip
  lent_trip a ready rates fit wide far =
      let h = ready.whole in
      let e = runs_is h rates fit in
      let t : take (length runs) runs ≡ runs = take-length runs in
      let k = runs_hold_lem cu m h rates runs (length runs) (t ∙ e) (rw e (few cu m h rates)) in
      let w = write_read cu p runs (length runs) bins (length other) rest a ready k (rw (t, e) wide) far in
      let b = w.back in
      let l = L.after-runs cu.size cu.chroma_idc cu.bd_luma cu.bd_chroma cu.lossless p (take wrote.bins after ++ rest) other in
      record {
        answered = ap (λ (x : Plan). x.answer) (plan-is cu m h rates (length list) fit);
        past = (fronts h rates fit).1;
        covers = λ o. rw e (runs_cover cu m h rates o);
        written = w.written ∙ ap (λ (x : List PaletteRun). record { refusal = 0; bins = length (bins_of cu x) }) t;
        laid = w.laid ∙ ap (λ (x : List PaletteRun). bins_of cu x ++ drop wrote.bins bins) t;
        accepted = b.accepted;
        block = b.block;
        used = b.used;
        count = b.count ∙ ap (λ (x : List PaletteRun). length (runs_sent cu x)) t;
        back = l.0 ∙ b.runs ∙ ap (runs_sent cu) t;
        kept = l.1;
      }
