-- The block that is read back is itself such a block, and encoder and decoder stay in step: it leaves the predictor that the written one leaves.
use Rattle.std.specs.Prelude.{Bool, not, ◌≡◌, ℕ, ◌*◌, ◌-◌, ◌≤◌, ◌<◌, ltb, eqb, take}
use Rattle.std.proofs.Math.Bool.{true, false}
use mathlib.Core.List.{[], ◌∷◌}
use Rattle.std.proofs.Math.Path.{ap}
use Rattle.std.proofs.Common.{sym, ◌∙◌, arith, take-take, get_or-take}
use Rattle.std.proofs.Math.ListN.{get_or}
use borrow.Author.Tests.{le-leb, eq-eqb, not-true}
use Rattle.base.specs.Pick.{pick, either}
use Rattle.base.specs.Tests.{every, any, both, pick_same, up_to, at_up_to}
use Rattle.h265.specs.Reuse.{trues}
use Rattle.model.specs.Domain.{most, no_color}
use Rattle.model.specs.Whole.{max_index, block_size_in, format_holds, counts_hold, entries_hold, level_in, levels_in, no_levels, cell_holds, empty_holds, holds}
use Rattle.model.specs.WholeLaws.{Whole, whole}
use Rattle.model.specs.declared.Levels.{Levels}
use Rattle.model.specs.declared.PaletteCu.{PaletteCu}
use Rattle.model.specs.declared.PalettePredictor.{PalettePredictor}
use Rattle.predictor.specs.Update.{update_refusal, update_of}
use Rattle.syntax.specs.Block.{chroma_due}
use Rattle.syntax.specs.Records.{call_of}
use Rattle.eyes.specs.Ready.{Ready}
use Rattle.trip.specs.Demand.{escaped, levels_sent, transpose_sent, Same}

-- a level that is not sent is in range
level_or_none : (t lossless : Bool) (depth v : ℕ) → level_in lossless depth v ≡ true → level_in lossless depth (pick t v 0) ≡ true
unfolding level_in
level_or_none true lossless depth v e = e
level_or_none false lossless depth v e = le-leb 0 (pick lossless (most depth) 32767) (omega arith)

module _ (cu : PaletteCu) (i : ℕ) (e : escaped cu i ≡ true) where
  sent_in_lem : levels_in cu (get_or cu.escapes i no_levels) ≡ true → levels_in cu (levels_sent cu i) ≡ true
  unfolding levels_in levels_sent
  sent_in_lem h =
      let l = get_or cu.escapes i no_levels in
      let due = every (escaped cu i ∷ chroma_due (call_of 64 [] cu) cu.transpose i ∷ []) in
      let b = level_in cu.lossless cu.bd_chroma l.cb in
      let r = level_in cu.lossless cu.bd_chroma l.cr in
      let y = both (level_in cu.lossless cu.bd_luma l.y) _ h in
      let c = both (any (eqb cu.chroma_idc 0 ∷ every (b ∷ r ∷ []) ∷ [])) true y.1 in
      rw (level_or_none (escaped cu i) cu.lossless cu.bd_luma l.y y.0)
      (either (eqb cu.chroma_idc 0)
      (λ t. rw t)
      (λ t.
      let w = both (every (b ∷ r ∷ [])) true (rw t at c.0) in
      let u = both b _ w.0 in
      let v = both r true u.1 in
      rw (t, level_or_none due cu.lossless cu.bd_chroma l.cb u.0, level_or_none due cu.lossless cu.bd_chroma l.cr v.0)))

module _ (cu : PaletteCu) (p : PalettePredictor) (x : PaletteCu) (b : Same cu x) (ready : Ready p cu) where
  w : Whole 64 cu
  w = whole 64 cu ready.whole

  entry-same : (i : ℕ) → i < cu.palette_size → get_or x.palette i no_color ≡ get_or cu.palette i no_color
  entry-same i h =
      sym (get_or-take cu.palette_size x.palette i no_color h) ∙ rw b.palette (get_or-take cu.palette_size cu.palette i no_color h)

  size_holds_lem : block_size_in x ≡ true
  unfolding block_size_in holds
  size_holds_lem = rw (b.size, b.format) (both (block_size_in cu) _ ready.whole).0

  format_holds_lem : format_holds x ≡ true
  unfolding format_holds
  format_holds_lem = rw (b.format, b.luma, b.chroma, le-leb cu.chroma_idc 3 w.format, w.luma, w.chroma)

  counts_hold_lem : counts_hold x ≡ true
  unfolding counts_hold
  counts_hold_lem = rw (b.predictors, b.flags, b.signalled, b.entries) (eq-eqb _ _ w.counts)

  entries_hold_lem : entries_hold x ≡ true
  unfolding entries_hold
  entries_hold_lem = rw (b.entries, b.format, b.luma, b.chroma) (at_up_to _ cu.palette_size (λ i h. rw (entry-same i h) (w.fit i h)))

  most-same : max_index x ≡ max_index cu
  unfolding max_index
  most-same = rw (b.entries, b.escape)

  levels-same : (l : Levels) → levels_in x l ≡ levels_in cu l
  unfolding levels_in
  levels-same l = rw (b.lossless, b.luma, b.chroma, b.format)

  cell_holds_lem : (i : ℕ) → i < cu.size * cu.size → cell_holds x i ≡ true
  unfolding cell_holds
  cell_holds_lem i h =
      rw (levels-same (get_or x.escapes i no_levels), b.indices i h, most-same, b.levels i h, b.entries, le-leb (get_or cu.indices i 0) (max_index cu) (w.index i h))
      (either (escaped cu i)
      (λ t. rw (t, sent_in_lem cu i t (rw t at (w.levels i h))))
      (λ t. rw t))

  transpose_off : cu.transpose ≡ false → transpose_sent cu ≡ false
  unfolding transpose_sent
  transpose_off d = ap (λ (t : Bool). pick (ltb 0 (max_index cu)) t false) d ∙ pick_same (ltb 0 (max_index cu)) false

  empty_holds_lem : empty_holds x ≡ true
  unfolding empty_holds
  empty_holds_lem =
      rw (b.entries, b.escape, b.transpose)
      (either (eqb cu.palette_size 0)
      (λ t.
      let a = both cu.escape_present _ (rw t at w.empty) in
      rw (transpose_off (not-true cu.transpose (both (not cu.transpose) true a.1).0), t, a.0))
      (λ t. rw t))

  cells_hold : up_to (x.size * x.size) (cell_holds x) ≡ true
  cells_hold = at_up_to (cell_holds x) (x.size * x.size) (λ i h. cell_holds_lem i (rw b.size at h))

  -- the block that is read holds together
  pub read-holds : holds 64 x ≡ true
  unfolding holds
  read-holds =
      rw (size_holds_lem, format_holds_lem, counts_hold_lem, entries_hold_lem, cells_hold, empty_holds_lem, b.entries, b.predictors, b.tolerance, le-leb cu.palette_size 64 w.entries, le-leb cu.pred_size 128 w.flags)

  front_same : (k : ℕ) → k ≤ cu.palette_size → take k x.palette ≡ take k cu.palette
  front_same k h = sym (take-take k cu.palette_size x.palette h) ∙ ap (take k) b.palette ∙ take-take k cu.palette_size cu.palette h

  -- it is what the round trip asks of a block
  pub read-ready : Ready p x
  read-ready = record {
    whole = read-holds;
    valid = rw (b.format, b.luma, b.chroma) ready.valid;
    flags = b.predictors ∙ ready.flags;
    starts = rw (b.predictors, b.flags) (front_same (trues (take cu.pred_size cu.reused)) (omega (arith, w.counts)) ∙ ready.starts);
  }

  size_before : block_size_in cu ≡ true
  unfolding holds
  size_before = (both (block_size_in cu) _ ready.whole).0

  -- ENCODER AND DECODER STAY IN STEP: update leaves the same predictor, or refuses both
  pub in_step : (limit : ℕ) → update_of p x limit ≡ update_of p cu limit
  unfolding update_of update_refusal
  in_step limit = rw (size_holds_lem, size_before, read-holds, ready.whole, b.format, b.luma, b.chroma, b.entries, b.palette, b.predictors, b.flags)
