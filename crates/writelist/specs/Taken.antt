-- The writer answers of a list's records in an array what it answers of the list: a list of over 1,024 runs is refused, or ignored.
use Rattle.std.specs.Prelude.{◌≡◌, true, List, [], ◌∷◌, ℕ, ◌≤◌, ◌<◌, min, ltb, leb, eqb, take, replicate}
use Rattle.std.proofs.Math.Path.{ap}
use Rattle.std.proofs.Common.{sym, length-take-le, take-take}
use Rattle.std.proofs.Math.Logic.{⊎_elim}
use Rattle.std.proofs.Math.Nat.{min-eq_left, min-le_left}
use native.Mathlib.Omega.{arith}
use Rattle.std.proofs.Math.ListN.{length, length-drop, length-take}
use borrow.Author.Tests.{lt-leb, ltb-false, eqb-true}
use Rattle.base.specs.Pick.{either, lt_or_le, true_false}
use Rattle.base.specs.Refusals.{refused_not}
use Rattle.h265.specs.Reuse.{trues}
use Rattle.model.specs.declared.PaletteCu.{PaletteCu}
use Rattle.model.specs.declared.PaletteRun.{PaletteRun}
use Rattle.model.specs.Whole.{max_index, block_size_in, holds}
use Rattle.model.specs.WholeLaws.{whole}
use Rattle.syntax.specs.Block.{palette_of, map_bins, block_bins}
use Rattle.syntax.specs.Block as B
use Rattle.syntax.specs.Records.{no_run, block_of}
use Rattle.runlist.specs.Lists.{laid_on, laid-front}
use Rattle.write.specs.Write.{bins_of, runs_hold, write_refusal, write_of, list_after}

-- the records of a list in front of an array's blank ones
abbrev pub taken : List PaletteRun → List PaletteRun
taken l = laid_on (replicate 1024 no_run) l (min (length l) 1024)

taken-all : (l : List PaletteRun) → length l ≤ 1024 → take (length l) (taken l) ≡ take (length l) l
taken-all l h = rw (min-eq_left h) (laid-front (replicate 1024 no_run) l (length l) (omega arith))

module _ (cu : PaletteCu) where
  -- with M = 0 no run is sent
  top-none : holds 64 cu ≡ true → max_index cu ≡ 0 → B.max_index (palette_of (block_of cu)) ≡ 0
  unfolding max_index
  top-none h e =
      let w = whole 64 cu h in
      let c = w.counts in
      let d = length-drop (trues (take cu.pred_size cu.reused)) (take cu.palette_size cu.palette) in
      let t = length-take cu.palette_size cu.palette in
      let u = min-le_left cu.palette_size (length cu.palette) in
      omega arith

  bins_any : holds 64 cu ≡ true → max_index cu ≡ 0 → (rs us : List PaletteRun) → bins_of cu rs ≡ bins_of cu us
  unfolding bins_of block_bins map_bins
  bins_any h e rs us = rw (top-none h e)

  module _ (l : List PaletteRun) where
    -- whether the runs hold, and the bins where they do
    hold_same : runs_hold cu (taken l) (length l) ≡ runs_hold cu l (length l)
    unfolding runs_hold
    hold_same =
        ⊎_elim
        (λ (h : 1024 < length l). rw (lt-leb (length l) 1024 h))
        (λ (h : length l ≤ 1024). rw (taken-all l h))
        (lt_or_le 1024 (length l))

    bins_same : holds 64 cu ≡ true → runs_hold cu l (length l) ≡ true → bins_of cu (take (length l) (taken l)) ≡ bins_of cu (take (length l) l)
    unfolding runs_hold
    bins_same h r =
        ⊎_elim
        (λ (o : 1024 < length l). either (ltb 0 (max_index cu))
        (λ t. absurd (true_false (sym (rw (t, lt-leb (length l) 1024 o) at r))))
        (λ t. bins_any h (omega (arith, ltb-false 0 (max_index cu) t)) (take (length l) (taken l)) (take (length l) l)))
        (λ (o : length l ≤ 1024). ap (bins_of cu) (taken-all l o))
        (lt_or_le 1024 (length l))

    refusal-same : (room : ℕ) → write_refusal cu (taken l) (length l) room ≡ write_refusal cu l (length l) room
    unfolding write_refusal
    refusal-same room =
        rw hold_same
        (either (holds 64 cu)
        (λ h. either (runs_hold cu l (length l))
        (λ r. rw (bins_same h r))
        (λ r. rw (h, r)))
        (λ h. rw h))

    -- no refusal: the block and its runs hold
    went : (room : ℕ) → write_refusal cu l (length l) room ≡ 0 → (holds 64 cu ≡ true) × (runs_hold cu l (length l) ≡ true)
    unfolding write_refusal
    went room e =
        let a = refused_not (block_size_in cu) 2 ((holds 64 cu, 7) ∷ (runs_hold cu l (length l), 8) ∷ (leb (length (bins_of cu (take (length l) l))) room, 9) ∷ []) (omega arith) e in
        let b = refused_not (holds 64 cu) 7 ((runs_hold cu l (length l), 8) ∷ (leb (length (bins_of cu (take (length l) l))) room, 9) ∷ []) (omega arith) a.1 in
        (b.0, (refused_not (runs_hold cu l (length l)) 8 ((leb (length (bins_of cu (take (length l) l))) room, 9) ∷ []) (omega arith) b.1).0)

    pub write_taken : (room : ℕ) → write_of cu (taken l) (length l) room ≡ write_of cu l (length l) room
    unfolding write_of
    write_taken room =
        rw (refusal-same room)
        (either (eqb (write_refusal cu l (length l) room) 0)
        (λ e. let g = went room (eqb-true _ 0 e) in rw (bins_same g.0 g.1))
        (λ e. rw e))

    pub list_taken : (bins : List ℕ) → list_after cu (taken l) (length l) bins ≡ list_after cu l (length l) bins
    unfolding list_after
    list_taken bins =
        rw (refusal-same (length bins))
        (either (eqb (write_refusal cu l (length l) (length bins)) 0)
        (λ e. let g = went (length bins) (eqb-true _ 0 e) in rw (bins_same g.0 g.1))
        (λ e. rw e))

  -- ---- lent the first c records of a list, the writer answers of that list and its count

  module _ (xs : List PaletteRun) (c : ℕ) (known : c ≤ length xs) where
    count-is : length (take c xs) ≡ c
    count-is = length-take-le c xs known

    front-is : take c (take c xs) ≡ take c xs
    front-is = take-take c c xs (omega arith)

    pub write_front : (room : ℕ) → write_of cu (take c xs) (length (take c xs)) room ≡ write_of cu xs c room
    unfolding write_of write_refusal runs_hold
    write_front room = rw (count-is, front-is)

    pub list_front : (bins : List ℕ) → list_after cu (take c xs) (length (take c xs)) bins ≡ list_after cu xs c bins
    unfolding list_after write_refusal runs_hold
    list_front bins = rw (count-is, front-is)
