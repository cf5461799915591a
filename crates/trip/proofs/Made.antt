-- The round trip of every block that analysis and assignment make, as it is and smoothed.
use Rattle.std.specs.Prelude.{Bool, true, List, ◌≡◌, ℕ, ◌*◌, ◌≤◌, Float, length, take}
use Rattle.std.proofs.Common.{⊎_elim, ap, sym, subst, ◌∙◌}
use Rattle.base.specs.Pick.{eq_or_ne}
use Rattle.h265.specs.Reuse.{trues, flagged}
use Rattle.model.specs.Domain.{predictor_in}
use Rattle.model.specs.declared.PaletteConfig.{PaletteConfig}
use Rattle.model.specs.declared.PaletteCu.{PaletteCu}
use Rattle.model.specs.declared.PalettePredictor.{PalettePredictor}
use Rattle.model.specs.declared.SourceBlock.{SourceBlock}
use Rattle.colors.specs.declared.ColorIndex.{ColorIndex}
use Rattle.analysis.specs.Analyze.{analyze_of, analyze_with_of}
use Rattle.analysis.specs.Holds.{Plane}
use Rattle.assigning.specs.Assigning.{assign_of}
use Rattle.smoothing.specs.Holds.{refused-kept, rest-kept, indices-kept, accepted-holds}
use Rattle.smoothing.specs.Smoothing.{smooth_of}
use Rattle.eyes.specs.Ready.{Seen, ready, ready_with}
use Rattle.trip.proofs.Lent.{LentTrip, lent_trip}
use Rattle.trip.proofs.Trip.{round_trip}
use Rattle.model.specs.declared.PaletteRun.{PaletteRun}
use Rattle.plan.specs.Answer.{runs_for}
use Rattle.rates.specs.Rates.{rates_in}
use Rattle.rates.specs.declared.RateModel.{RateModel}
use Rattle.write.specs.Write.{bins_of}
use Rattle.trip.specs.Demand.{RoundTrip}

-- the round trip of a block, for any rates from 0 to 64 and room in the lists, by value and through lent lists
pub record Trips (p : PalettePredictor) (cu : PaletteCu) : Type 0 where
  pub lent : (m : RateModel) (list : List PaletteRun) (bins : List ℕ) (other : List PaletteRun) (rest : List ℕ)
      → rates_in m ≡ true → length (runs_for cu m) ≤ length list → length (bins_of cu (runs_for cu m)) ≤ length bins → cu.size * cu.size ≤ length other
      → LentTrip cu p m list bins other rest
  pub by_value : (m : RateModel) (room : ℕ) (list : List ℕ) (space : ℕ) (rest : List ℕ)
      → rates_in m ≡ true → length (runs_for cu m) ≤ room → length (bins_of cu (runs_for cu m)) ≤ length list → cu.size * cu.size ≤ space
      → RoundTrip cu p m room list space rest

trips : (p : PalettePredictor) (cu : PaletteCu) → Seen p cu → Trips p cu
trips p cu s = record { lent = λ m list bins other rest. lent_trip cu p m list bins other rest s.arrays s.ready; by_value = round_trip cu p s.arrays s.ready }

-- ---- smoothing keeps what the round trip asks for

module _ (luma cb cr : List ℕ) (c : PaletteConfig) (g : SourceBlock) (lambda bits : Float) (p : PalettePredictor) (cu : PaletteCu) (s : Seen p cu) where
  abbrev after : PaletteCu
  after = (smooth_of luma cb cr c g lambda bits cu).cu

  moved : (smooth_of luma cb cr c g lambda bits cu).refusal ≡ 0 → Seen p after
  moved e =
      let k = rest-kept luma cb cr c g lambda bits cu in
      let r = s.ready in
      let a = s.arrays in
      record {
        ready = record {
          whole = accepted-holds luma cb cr c g lambda bits cu e;
          valid = subst (λ (x : PaletteCu). predictor_in x.chroma_idc x.bd_luma x.bd_chroma p ≡ true) (sym k) r.valid;
          flags = ap (λ (x : PaletteCu). x.pred_size) k ∙ r.flags;
          starts = subst (λ (x : PaletteCu). take (trues (take x.pred_size x.reused)) x.palette ≡ flagged (take x.pred_size x.reused) (take p.size p.entries)) (sym k) r.starts;
        };
        arrays = record {
          entries = a.entries;
          palette = ap (λ (x : PaletteCu). length x.palette) k ∙ a.palette;
          flags = ap (λ (x : PaletteCu). length x.reused) k ∙ a.flags;
          indices = (indices-kept luma cb cr c g lambda bits cu e).count ∙ a.indices;
          levels = ap (λ (x : PaletteCu). length x.escapes) k ∙ a.levels;
        };
      }

  pub smoothed-seen : Seen p after
  smoothed-seen =
      ⊎_elim
      (λ (e : (smooth_of luma cb cr c g lambda bits cu).refusal ≡ 0). moved e)
      (λ (d : (smooth_of luma cb cr c g lambda bits cu).refusal ≡ 0 → ⊥). subst (Seen p) (sym (refused-kept luma cb cr c g lambda bits cu d)) s)
      (eq_or_ne (smooth_of luma cb cr c g lambda bits cu).refusal 0)

-- ---- the blocks made: the facts of a call's types are that samples are of 16 bits, and that a predictor has room for 128 entries

module _ (luma cb cr luma' cb' cr' : List ℕ) (c c' : PaletteConfig) (g g' : SourceBlock) (p : PalettePredictor) (k : ColorIndex) (transpose : Bool) (samples : Plane luma) (full : length p.entries ≡ 128) where
  -- analysed at the luma QP's tolerance, and assigned
  abbrev pub assigned : PaletteCu
  assigned = (assign_of luma' cb' cr' c' g' transpose (analyze_of luma cb cr c g p k).cu).cu

  -- analysed at a tolerance lent, and assigned
  abbrev pub assigned_with : ℕ → PaletteCu
  assigned_with tol = (assign_of luma' cb' cr' c' g' transpose (analyze_with_of luma cb cr c g p k tol).cu).cu

  module _ (one : (analyze_of luma cb cr c g p k).refusal ≡ 0) (two : (assign_of luma' cb' cr' c' g' transpose (analyze_of luma cb cr c g p k).cu).refusal ≡ 0) where
    seen : Seen p assigned
    seen = ready luma cb cr luma' cb' cr' c c' g g' p k transpose samples full one two

    -- EVERY BLOCK THAT ANALYSIS AND ASSIGNMENT MAKE
    pub made_trip : Trips p assigned
    made_trip = trips p assigned seen

    -- and what smoothing gives of it, moved or refused
    pub smoothed_trip : (luma'' cb'' cr'' : List ℕ) (c'' : PaletteConfig) (g'' : SourceBlock) (lambda bits : Float) → Trips p (smooth_of luma'' cb'' cr'' c'' g'' lambda bits assigned).cu
    smoothed_trip luma'' cb'' cr'' c'' g'' lambda bits = trips p _ (smoothed-seen luma'' cb'' cr'' c'' g'' lambda bits p assigned seen)

  module _ (tol : ℕ) (one : (analyze_with_of luma cb cr c g p k tol).refusal ≡ 0) (two : (assign_of luma' cb' cr' c' g' transpose (analyze_with_of luma cb cr c g p k tol).cu).refusal ≡ 0) where
    seen_with : Seen p (assigned_with tol)
    seen_with = ready_with luma cb cr luma' cb' cr' c c' g g' p k transpose samples full tol one two

    pub made_trip_with : Trips p (assigned_with tol)
    made_trip_with = trips p (assigned_with tol) seen_with

    pub smoothed_trip_with : (luma'' cb'' cr'' : List ℕ) (c'' : PaletteConfig) (g'' : SourceBlock) (lambda bits : Float) → Trips p (smooth_of luma'' cb'' cr'' c'' g'' lambda bits (assigned_with tol)).cu
    smoothed_trip_with luma'' cb'' cr'' c'' g'' lambda bits = trips p _ (smoothed-seen luma'' cb'' cr'' c'' g'' lambda bits p (assigned_with tol) seen_with)
