-- A lossless block of tolerance 0 that assignment makes decodes to the picture's samples, cell for cell, transposed or not.
use Rattle.std.specs.Prelude.{Bool, true, false, not, List, [], ◌∷◌, ◌≡◌, refl, ℕ, ◌+◌, ◌*◌, ◌≤◌, ◌<◌, ◌^◌, min, eqb, leb, pos, get_or, length}
use Rattle.std.proofs.Common.{⊎_elim, ap, sym, ◌∙◌, arith, ne_eqb, leb-true, eqb-true}
use Rattle.std.proofs.lemmas.Bool.{eqb-false}
use Rattle.base.specs.Pick.{pick, either}
use Rattle.base.specs.Cells.{laid, laid_in}
use Rattle.base.specs.Tests.{every, both}
use Rattle.h265.specs.Escape.{escape_value, step_at}
use Rattle.h265.specs.EscapeLaws.{value_lossless, value_le}
use Rattle.h265.specs.Scan.{scan_at, col_of, row_of}
use Rattle.h265.specs.ScanLaws.{back_and_there, scan_lt}
use Rattle.quant.specs.Quant.{packed, y_of, u_of, v_of, dist, level_of}
use Rattle.quant.specs.QuantLaws.{level_lossless, packed-parts, dist-none}
use Rattle.model.specs.Domain.{config_in, most}
use Rattle.model.specs.ConfigLaws.{depth-most, config_bounds}
use Rattle.model.specs.Whole.{no_levels}
use Rattle.model.specs.declared.PaletteConfig.{PaletteConfig}
use Rattle.model.specs.declared.PaletteCu.{PaletteCu}
use Rattle.entries.specs.Entries.{palette_of}
use Rattle.source.specs.Source.{fits}
use Rattle.assign.specs.Assign.{index_of}
use Rattle.assign.specs.Laws.{index_le, index-within}
use Rattle.levels.specs.Levels.{scale_of, levels_of, levels_at, values_of, value_at}
use Rattle.figure.specs.Figure.{scan_sample}
use Rattle.assigning.specs.Assigning.{index_at, cell_levels, mapped, assigned}
use Rattle.onto.specs.Onto.{cell_of}
use Rattle.recon.specs.Recon.{cell_color}

-- the components in use of two colours are the same
pub record Same (format a b : ℕ) : Type 0 where
  pub y : y_of a ≡ y_of b
  pub u : 1 ≤ format → u_of a ≡ u_of b
  pub v : 1 ≤ format → v_of a ≡ v_of b

-- ---- an escape

one_exact : (step m x : ℕ) → x ≤ m → escape_value true step m (pos (level_of true step m x)) ≡ x
one_exact step m x h = rw (level_lossless step m x h) (value_lossless step m (pos x) ∙ omega arith)

escape_exact : (c : PaletteConfig) (e : ℕ) → config_in c ≡ true → c.lossless ≡ true → y_of e ≤ most c.bd_luma → u_of e ≤ most c.bd_chroma → v_of e ≤ most c.bd_chroma
    → Same c.chroma_idc (values_of (scale_of c) (levels_of (scale_of c) e)) e
unfolding values_of levels_of scale_of
escape_exact c e i l hy hu hv =
    let b = config_bounds c i in
    let ym = most c.bd_luma in
    let cm = most c.bd_chroma in
    let t = not (eqb c.chroma_idc 0) in
    let y = escape_value c.lossless (step_at c.qp_y) ym (pos (level_of c.lossless (step_at c.qp_y) ym (y_of e))) in
    let u = escape_value c.lossless (step_at c.qp_cb) cm (pos (pick t (level_of c.lossless (step_at c.qp_cb) cm (u_of e)) 0)) in
    let v = escape_value c.lossless (step_at c.qp_cr) cm (pos (pick t (level_of c.lossless (step_at c.qp_cr) cm (v_of e)) 0)) in
    let dy = depth-most c.bd_luma b.luma in
    let dc = depth-most c.bd_chroma b.chroma in
    let p : y < 2 ^ 16 = omega (arith, dy, value_le c.lossless (step_at c.qp_y) ym (pos (level_of c.lossless (step_at c.qp_y) ym (y_of e)))) in
    let q : u < 2 ^ 16 = omega (arith, dc, value_le c.lossless (step_at c.qp_cb) cm (pos (pick t (level_of c.lossless (step_at c.qp_cb) cm (u_of e)) 0))) in
    let r : v < 2 ^ 16 = omega (arith, dc, value_le c.lossless (step_at c.qp_cr) cm (pos (pick t (level_of c.lossless (step_at c.qp_cr) cm (v_of e)) 0))) in
    let w = packed-parts y u v p q r in
    record {
      y = w.0 ∙ rw l (one_exact (step_at c.qp_y) ym (y_of e) hy);
      u = λ f. w.1 ∙ rw (l, ne_eqb c.chroma_idc 0 (λ z. omega arith)) (one_exact (step_at c.qp_cb) cm (u_of e) hu);
      v = λ f. w.2 ∙ rw (l, ne_eqb c.chroma_idc 0 (λ z. omega arith)) (one_exact (step_at c.qp_cr) cm (v_of e) hv);
    }

-- ---- the cell of a column and a row

scan_cell : (transpose : Bool) (size : ℕ) (sample : ℕ → ℕ → ℕ) (x y : ℕ) → x < size → y < size → scan_sample transpose size sample (cell_of transpose size x y) ≡ sample x y
unfolding scan_sample cell_of
scan_cell true size sample x y h k = let b = back_and_there size y x k in rw (b.0, b.1)
scan_cell false size sample x y h k = let b = back_and_there size x y h in rw (b.0, b.1)

cell_in : (transpose : Bool) (size x y : ℕ) → x < size → y < size → cell_of transpose size x y < size * size
unfolding cell_of
cell_in true size x y h k = scan_lt size y x k h
cell_in false size x y h k = scan_lt size x y h k

color_of_lem : (c : PaletteConfig) (transpose : Bool) (cu : PaletteCu) (sample : ℕ → ℕ → ℕ) → cu.size * cu.size ≤ length cu.indices → cu.size * cu.size ≤ length cu.escapes → (j : ℕ) → j < cu.size * cu.size
    → cell_color c (assigned c transpose cu sample) j ≡ value_at (scale_of c) (palette_of cu) cu.palette_size (index_at transpose cu sample j) (cell_levels c transpose cu sample j)
unfolding cell_color assigned mapped
color_of_lem c transpose cu sample li le j h =
    rw (
      laid_in (index_at transpose cu sample) cu.indices 0 (cu.size * cu.size) j 0 (omega arith) (omega arith) (omega arith),
      laid_in (cell_levels c transpose cu sample) cu.escapes 0 (cu.size * cu.size) j no_levels (omega arith) (omega arith) (omega arith),
    )

-- ---- every cell

-- the colour e of a cell, by its index
cell_exact : (c : PaletteConfig) (ps : List ℕ) (n e : ℕ) → config_in c ≡ true → c.lossless ≡ true → 1 ≤ n → fits (most c.bd_luma) (most c.bd_chroma) e ≡ true
    → Same c.chroma_idc (value_at (scale_of c) ps n (index_of 0 ps n e) (levels_at (scale_of c) n (index_of 0 ps n e) e)) e
unfolding value_at levels_at
cell_exact c ps n e i l o f =
    let p = both (leb (y_of e) (most c.bd_luma)) _ f in
    let q = both (leb (u_of e) (most c.bd_chroma)) _ p.1 in
    let r = both (leb (v_of e) (most c.bd_chroma)) true q.1 in
    either (eqb (index_of 0 ps n e) n)
    (λ t. rw t (escape_exact c e i l (leb-true _ _ p.0) (leb-true _ _ q.0) (leb-true _ _ r.0)))
    (λ t.
    let k : index_of 0 ps n e ≡ n → ⊥ = eqb-false _ _ t in
    let m : index_of 0 ps n e < n = omega (arith, index_le 0 ps n e o) in
    let d : dist e (get_or ps (index_of 0 ps n e) 0) ≡ 0 = omega (arith, index-within 0 ps n e m) in
    let s = dist-none e (get_or ps (index_of 0 ps n e) 0) d in
    rw t (record { y = sym s.0; u = λ z. sym s.1; v = λ z. sym s.2 }))

-- the sample of each column and row comes back
pub lossless_back : (c : PaletteConfig) (transpose : Bool) (cu : PaletteCu) (sample : ℕ → ℕ → ℕ) → config_in c ≡ true → c.lossless ≡ true → cu.tolerance ≡ 0 → 1 ≤ cu.palette_size
    → cu.size * cu.size ≤ length cu.indices → cu.size * cu.size ≤ length cu.escapes → (x y : ℕ) → x < cu.size → y < cu.size → fits (most c.bd_luma) (most c.bd_chroma) (sample x y) ≡ true
    → Same c.chroma_idc (cell_color c (assigned c transpose cu sample) (cell_of transpose cu.size x y)) (sample x y)
unfolding index_at cell_levels
lossless_back c transpose cu sample i l z o li le x y h k f =
    rw (color_of_lem c transpose cu sample li le (cell_of transpose cu.size x y) (cell_in transpose cu.size x y h k), scan_cell transpose cu.size sample x y h k, z)
    (cell_exact c (palette_of cu) cu.palette_size (sample x y) i l o f)
