-- The list after an assignment is that of the block that assignment makes.
use Rattle.std.specs.Prelude.{◌≡◌, refl, Bool, not, ℕ, ◌+◌, ◌*◌, ◌≤◌, ◌<◌, eqb, get_or, replicate}
use Rattle.std.proofs.Math.Path.{ap}
use Rattle.std.proofs.Common.{sym, ◌∙◌, length-append}
use Rattle.std.proofs.Math.Bool.{true, false}
use mathlib.Core.List.{List, ◌++◌, map}
use native.Mathlib.Omega.{arith}
use borrow.Author.Tests.{le-leb, lt-leb}
use Rattle.std.proofs.Math.ListN.{length, length-replicate}
use Rattle.std.proofs.lemmas.List.{length-map}
use Rattle.std.proofs.Math.Seq.{sets}
use Rattle.base.specs.Cells.{laid, laid_in, laid-length}
use Rattle.base.specs.Laid.{Laid, sets_append}
use Rattle.calls.specs.Calls.{answered}
use Rattle.h265.specs.Strings.{bit}
use Rattle.model.specs.Domain.{no_color}
use Rattle.model.specs.Whole.{no_levels}
use Rattle.model.specs.declared.Levels.{Levels}
use Rattle.model.specs.declared.PaletteConfig.{PaletteConfig}
use Rattle.model.specs.declared.PaletteCu.{PaletteCu}
use Rattle.flat.specs.Flat.{levels_of, colors_of, head_of, block_of, flat_block}
use Rattle.flat.specs.FlatLaws.{colors_length}
use Rattle.layflat.specs.Front.{front_of, flat-front}
use Rattle.entries.specs.Entries.{palette_of}
use Rattle.assign.specs.Assign.{index_of, escapes_of}
use Rattle.levels.specs.Levels.{scale_of}
use Rattle.figure.specs.Figure.{scan_sample, figure_of, block_figure}
use Rattle.figure.specs.Laws.{in_rows, figure_same}
use Rattle.assigning.specs.Assigning.{Assigned, with_cells, with_sse, mapped, escapes, escapes_in}
use Rattle.assigning.specs.Laws.{map_of, map-refused, map-made, escapes-made, mapped-made}
use Rattle.flatassign.specs.Places.{with_levels, sets_swap, escapes-long}
use Rattle.flatassign.specs.Filling.{cell_levels, cell_value}

-- a refusal's number and the list as it was, or 0 and the list of the block made
abbrev pub assign_laid : Assigned → List ℕ → ℕ × List ℕ
assign_laid done list = answered done.refusal list (sets list 0 (flat_block done.cu))

-- ---- lengths

front_long : (cu : PaletteCu) → length cu.palette ≡ 64 → length cu.reused ≡ 128 → length cu.indices ≡ 1024 → length (front_of cu) ≡ 1360
unfolding front_of head_of
front_long cu p r i =
    let f = map bit cu.reused in
    let a = length-append f cu.indices in
    let d = length-append (colors_of cu.palette) (f ++ cu.indices) in
    let z : length (head_of cu ++ (colors_of cu.palette ++ (f ++ cu.indices))) ≡ 16 + length (colors_of cu.palette ++ (f ++ cu.indices)) = length-append (head_of cu) (colors_of cu.palette ++ (f ++ cu.indices)) in
    let m : length f ≡ length cu.reused = length-map cu.reused bit in
    omega (arith, a, d, z, m, colors_length cu.palette, p, r, i)

module _ (cu : PaletteCu) (b : List ℕ) (own : cu ≡ block_of b) where
  pub indices-long : length cu.indices ≡ 1024
  unfolding block_of
  indices-long = ap (λ (u : PaletteCu). length u.indices) own ∙ laid-length _ _ 0 1024 ∙ length-replicate {A = ℕ} 1024 0

  palette_long : length cu.palette ≡ 64
  unfolding block_of
  palette_long = ap (λ (u : PaletteCu). length u.palette) own ∙ laid-length _ _ 0 64 ∙ length-replicate 64 no_color

  flags_long : length cu.reused ≡ 128
  unfolding block_of
  flags_long = ap (λ (u : PaletteCu). length u.reused) own ∙ laid-length _ _ 0 128 ∙ length-replicate 128 false

  levels-long : length cu.escapes ≡ 1024
  levels-long = ap (λ (u : PaletteCu). length u.escapes) own ∙ escapes-long b

  -- front and levels make the list
  front-laid : (list after : List ℕ) (present transpose : Bool) (indices : List ℕ) (levels : List Levels) (sse r : ℕ) → length indices ≡ 1024 → list ≡ with_levels b levels
      → Laid list 0 (front_of (with_sse (with_cells cu present transpose indices cu.escapes) sse)) r after → after ≡ sets b 0 (flat_block (with_sse (with_cells cu present transpose indices levels) sse))
  unfolding front_of head_of
  front-laid list after present transpose indices levels sse r n e a =
      let x = levels_of levels in
      let made = with_sse (with_cells cu present transpose indices levels) sse in
      let y = front_of made in
      let long : length y ≡ 1360 = front_long made palette_long flags_long n in
      let k : 1360 ≡ 0 + length y = omega arith in
      let one : after ≡ sets (sets b 1360 x) 0 y = a.after ∙ ap (λ (l : List ℕ). sets l 0 y) e in
      one
      ∙ sets_swap y x b 0 1360 (omega arith)
      ∙ ap (λ (i : ℕ). sets (sets b 0 y) i x) k
      ∙ sets_append y x b 0
      ∙ ap (sets b 0) (flat-front made)

-- ---- the error figure

pub figure_filled : (format : ℕ) (transpose : Bool) (size : ℕ) (value : ℕ → ℕ) (sample : ℕ → ℕ → ℕ) (values zs : List ℕ) (m : ℕ) → m ≡ size * size → m ≤ length zs → values ≡ laid value zs 0 m
    → figure_of format transpose size (λ (j : ℕ). get_or values j 0) sample ≡ figure_of format transpose size value sample
figure_filled format transpose size value sample values zs m q h e =
    figure_same format transpose size _ _ sample sample
    (λ j k. ap (λ (z : List ℕ). get_or z j 0) e ∙ laid_in value zs 0 m j 0 (omega arith) (omega arith) (omega arith))
    (λ x y k l. refl)

-- ---- the samples in scan order

pub scan_at_lem : (transpose : Bool) (size : ℕ) (cells scan : List ℕ) (n : ℕ) → scan ≡ laid (scan_sample transpose size (in_rows size cells)) (replicate 1024 0) 0 (size * size) → n ≡ size * size → n ≤ 1024
    → (j : ℕ) → j < size * size → get_or scan j 0 ≡ scan_sample transpose size (in_rows size cells) j
scan_at_lem transpose size cells scan n e q o j h =
    ap (λ (l : List ℕ). get_or l j 0) e ∙ laid_in (scan_sample transpose size (in_rows size cells)) (replicate 1024 0) 0 (size * size) j 0 (omega arith) (omega arith) (omega (arith, length-replicate {A = ℕ} 1024 0))

-- ---- 14, or the list of the block made

module _ (c : PaletteConfig) (transpose : Bool) (cu : PaletteCu) (b : List ℕ) (own : cu ≡ block_of b) (sample : ℕ → ℕ → ℕ) (scan palette : List ℕ) (p : palette ≡ palette_of cu)
    (h : (j : ℕ) → j < cu.size * cu.size → get_or scan j 0 ≡ scan_sample transpose cu.size sample j)
    (e : ℕ) (is : e ≡ escapes_of cu.tolerance palette cu.palette_size (cu.size * cu.size) (λ (j : ℕ). get_or scan j 0)) where
  many : e ≡ escapes transpose cu sample
  many = escapes-made c transpose cu sample scan palette p h e is

  pub list_refused : cu.size * cu.size < e * 4 → (14, b) ≡ assign_laid (map_of c transpose cu sample) b
  unfolding escapes_in
  list_refused k =
      let w : escapes_in transpose cu sample ≡ false = lt-leb (escapes transpose cu sample * 4) (cu.size * cu.size) (omega (arith, many)) in
      rw (← map-refused c transpose cu sample w)

  module _ (few : e * 4 ≤ cu.size * cu.size) (small : cu.size * cu.size ≤ 1024) (l : List ℕ)
      (cells : l ≡ laid (λ (j : ℕ). index_of cu.tolerance palette cu.palette_size (get_or scan j 0)) cu.indices 0 (cu.size * cu.size)) where
    abbrev levels : List Levels
    levels = laid (cell_levels (scale_of c) palette cu.palette_size l scan) cu.escapes 0 (cu.size * cu.size)

    abbrev made : PaletteCu
    made = with_cells cu (not (eqb e 0)) transpose l levels

    made-is : made ≡ mapped c transpose cu sample
    made-is = mapped-made c transpose cu sample scan palette p h e l levels made (omega (arith, indices-long cu b own)) refl is cells refl

    figure_is : figure_of cu.chroma_idc transpose cu.size (cell_value (scale_of c) palette cu.palette_size l scan) sample ≡ block_figure (scale_of c) made sample
    unfolding block_figure
    figure_is =
        figure_same cu.chroma_idc transpose cu.size _ _ sample sample
        (λ j k. rw (laid_in (cell_levels (scale_of c) palette cu.palette_size l scan) cu.escapes 0 (cu.size * cu.size) j no_levels (omega arith) (omega arith) (omega (arith, levels-long cu b own)), p))
        (λ x y k m. refl)

    pub list_made : (f : ℕ) (list after : List ℕ) → f ≡ figure_of cu.chroma_idc transpose cu.size (cell_value (scale_of c) palette cu.palette_size l scan) sample
        → list ≡ with_levels b (laid (cell_levels (scale_of c) palette cu.palette_size l scan) (block_of b).escapes 0 (cu.size * cu.size))
        → (r : ℕ) → Laid list 0 (front_of (with_sse (with_cells cu (not (eqb e 0)) transpose l cu.escapes) f)) r after → (0, after) ≡ assign_laid (map_of c transpose cu sample) b
    unfolding escapes_in
    list_made f list after i q r a =
        let w : escapes_in transpose cu sample ≡ true = le-leb (escapes transpose cu sample * 4) (cu.size * cu.size) (omega (arith, many)) in
        let n : length l ≡ 1024 = ap length cells ∙ laid-length _ cu.indices 0 (cu.size * cu.size) ∙ indices-long cu b own in
        let v : list ≡ with_levels b levels = q ∙ ap (λ (u : PaletteCu). with_levels b (laid (cell_levels (scale_of c) palette cu.palette_size l scan) u.escapes 0 (cu.size * cu.size))) (sym own) in
        rw (← map-made c transpose cu made sample f w made-is (i ∙ figure_is))
        (ap (λ (x : List ℕ). (0, x)) (front-laid cu b own list after (not (eqb e 0)) transpose l levels f r n v a))
