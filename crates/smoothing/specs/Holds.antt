-- A smoothed block holds together: its escapes stay escapes, its indices stay at most M, and palette and flags are not touched.
use Rattle.std.specs.Prelude.{Bool, List, ℕ, ◌*◌, ◌≤◌, ◌<◌, eqb, leb, Float, get_or}
use Rattle.std.proofs.Math.Bool.{true, false}
use Rattle.std.proofs.Math.Path.{◌≡◌, refl, ap, sym}
use Rattle.std.proofs.Common.{subst, ◌∙◌}
use borrow.Author.Tests.{le-leb, eqb-true}
use Rattle.std.specs.Float.{nan}
use Rattle.std.specs.Float.Ieee.{binary32, mul}
use Rattle.base.specs.Pick.{pick, either}
use Rattle.base.specs.Tests.{both, up_to, at_up_to}
use Rattle.model.specs.Whole.{max_index, block_size_in, format_holds, counts_hold, entries_hold, levels_in, cell_holds, empty_holds, holds}
use Rattle.model.specs.WholeLaws.{Whole, whole}
use Rattle.model.specs.declared.PaletteConfig.{PaletteConfig}
use Rattle.model.specs.declared.PaletteCu.{PaletteCu}
use Rattle.model.specs.declared.SourceBlock.{SourceBlock}
use Rattle.samples.specs.Samples.{color_at}
use Rattle.sse.specs.Sse.{block_in}
use Rattle.smooth.specs.Smooth.{Map}
use Rattle.smoothblock.specs.Block.{Smoothed, scene_of, map_of, with_map, mapped, answer}
use Rattle.smoothblock.specs.Kept.{Keeps, smooth_keeps, nan_moves_nothing}
use Rattle.smoothing.specs.Smoothing.{smooth_refusal, smooth_of}
use Rattle.smoothing.specs.Laws.{accepted}

-- ---- a block with another index map

module _ (cu : PaletteCu) (l : List ℕ) (e : ℕ) (k : Keeps cu.palette_size (cu.size * cu.size) cu.indices l) where
  cell : Whole 64 cu → (i : ℕ) → i < cu.size * cu.size → cell_holds (with_map cu l e) i ≡ true
  unfolding cell_holds max_index levels_in
  cell w i h = rw (le-leb (get_or l i 0) (max_index cu) (k.most (max_index cu) w.index i h), k.alike i, w.levels i h)

  cells_hold : holds 64 cu ≡ true → up_to (cu.size * cu.size) (cell_holds cu) ≡ true
  unfolding holds
  cells_hold h =
      let a = both (block_size_in cu) _ h in
      let b = both (format_holds cu) _ a.1 in
      let p = both (leb cu.palette_size 64) _ b.1 in
      let f = both (leb cu.pred_size 128) _ p.1 in
      let t = both (leb cu.tolerance 16) _ f.1 in
      let n = both (counts_hold cu) _ t.1 in
      let s = both (entries_hold cu) _ n.1 in
      (both (up_to (cu.size * cu.size) (cell_holds cu)) _ s.1).0

  pub map-holds : holds 64 cu ≡ true → holds 64 (with_map cu l e) ≡ true
  unfolding holds block_size_in format_holds counts_hold entries_hold empty_holds
  map-holds h =
      let same : up_to (cu.size * cu.size) (cell_holds (with_map cu l e)) ≡ up_to (cu.size * cu.size) (cell_holds cu) =
      at_up_to (cell_holds (with_map cu l e)) (cu.size * cu.size) (cell (whole 64 cu h)) ∙ sym (cells_hold h)
      in
      rw same h

-- ---- the answer where nothing is refused

module _ (c : PaletteConfig) (budget : Float) (cu : PaletteCu) (sample : ℕ → ℕ → ℕ) where
  answer_keeps : holds 64 cu ≡ true → Keeps cu.palette_size (cu.size * cu.size) cu.indices (answer c budget cu sample).cu.indices
  unfolding answer mapped map_of
  answer_keeps h = smooth_keeps (scene_of cu sample budget) (whole 64 cu h).least cu.indices

  answer-holds : holds 64 cu ≡ true → holds 64 (answer c budget cu sample).cu ≡ true
  unfolding answer mapped
  answer-holds h = map-holds cu _ _ (answer_keeps h) h

  answer_nan : budget ≡ nan → answer c budget cu sample ≡ record { refusal = 0; changed = false; cu = cu }
  unfolding answer mapped map_of
  answer_nan e = ap (λ (m : Map). record { refusal = 0; changed = m.changed; cu = mapped c cu sample m }) (nan_moves_nothing (scene_of cu sample budget) e cu.indices)

-- ---- the entry point

module _ (luma cb cr : List ℕ) (c : PaletteConfig) (g : SourceBlock) (lambda bits : Float) (cu : PaletteCu) where
  abbrev sample : ℕ → ℕ → ℕ
  sample = color_at luma cb cr c.chroma_idc g

  abbrev given : Smoothed
  given = smooth_of luma cb cr c g lambda bits cu

  none_refused : given.refusal ≡ 0 → smooth_refusal luma cb cr c g cu ≡ 0
  unfolding smooth_of
  none_refused e =
      either (eqb (smooth_refusal luma cb cr c g cu) 0) (λ t. eqb-true (smooth_refusal luma cb cr c g cu) 0 t)
      (λ t. let z : smooth_refusal luma cb cr c g cu ≡ 0 = rw t at e in z)

  taken : given.refusal ≡ 0 → answer c (mul binary32 lambda bits) cu sample ≡ smooth_of luma cb cr c g lambda bits cu
  unfolding smooth_of
  taken e = rw (none_refused e)

  whole_before : given.refusal ≡ 0 → holds 64 cu ≡ true
  unfolding block_in
  whole_before e = (both (holds 64 cu) _ (accepted luma cb cr c g cu (none_refused e))).0

  -- a refused block is as it came
  pub refused-kept : (given.refusal ≡ 0 → ⊥) → given.cu ≡ cu
  unfolding smooth_of answer
  refused-kept d =
      either (eqb (smooth_refusal luma cb cr c g cu) 0)
      (λ t. absurd (d (rw t)))
      (λ t. rw t)

  -- palette, flags, levels and the rest are as they were: only the indices and the error figure may differ
  pub rest-kept : with_map given.cu cu.indices cu.sse ≡ cu
  unfolding smooth_of answer mapped
  rest-kept = go (eqb (smooth_refusal luma cb cr c g cu) 0) (smooth_refusal luma cb cr c g cu)
    where
      go : (t : Bool) (k : ℕ) → with_map (pick t (answer c (mul binary32 lambda bits) cu sample) (record { refusal = k; changed = false; cu = cu })).cu cu.indices cu.sse ≡ cu
      go true k = refl
      go false k = refl

  -- a cell is an escape just where it was one; indices stay at most any bound; what stands past the block is not touched
  pub indices-kept : given.refusal ≡ 0 → Keeps cu.palette_size (cu.size * cu.size) cu.indices given.cu.indices
  indices-kept e = subst (λ (r : Smoothed). Keeps cu.palette_size (cu.size * cu.size) cu.indices r.cu.indices) (taken e) (answer_keeps c (mul binary32 lambda bits) cu sample (whole_before e))

  -- indices stay at most M
  pub indices-most : given.refusal ≡ 0 → (i : ℕ) → i < cu.size * cu.size → get_or given.cu.indices i 0 ≤ max_index cu
  indices-most e = (indices-kept e).most (max_index cu) (whole 64 cu (whole_before e)).index

  -- a smoothed block holds together
  pub accepted-holds : given.refusal ≡ 0 → holds 64 given.cu ≡ true
  accepted-holds e = subst (λ (r : Smoothed). holds 64 r.cu ≡ true) (taken e) (answer-holds c (mul binary32 lambda bits) cu sample (whole_before e))

  -- where lambda times the bits of a run is a NaN, nothing moves: the block is as it came
  pub nan_kept : mul binary32 lambda bits ≡ nan → smooth_of luma cb cr c g lambda bits cu ≡ record { refusal = smooth_refusal luma cb cr c g cu; changed = false; cu = cu }
  unfolding smooth_of
  nan_kept n = rw (answer_nan c (mul binary32 lambda bits) cu sample n) (go (smooth_refusal luma cb cr c g cu))
    where
      go : (k : ℕ) → ◌≡◌ {A = Smoothed} (pick (eqb k 0) (record { refusal = 0; changed = false; cu = cu }) (record { refusal = k; changed = false; cu = cu })) (record { refusal = k; changed = false; cu = cu })
      go k =
          either (eqb k 0)
          (λ t. let z : k ≡ 0 = eqb-true k 0 t in rw z)
          (λ t. rw t)
