-- What the code makes is what assignment makes; only the colours in the block count.
use Rattle.std.specs.Prelude.{Bool, not, List, [], ◌∷◌, ℕ, ◌+◌, ◌*◌, ◌≤◌, ◌<◌, leb, get_or, length}
use Rattle.std.proofs.Math.Bool.{true, false}
use Rattle.std.proofs.Common.{⊎_elim, sym, ◌∙◌, arith}
use Rattle.std.proofs.Math.Path.{◌≡◌, refl, ap}
use Rattle.std.proofs.Math.Arith.{digits_lt, digits_div, digits_mod}
use Rattle.std.proofs.Math.Dec.{eqb}
use borrow.Author.Tests.{ne_eqb, leb-true, eqb-true}
use Rattle.base.specs.Pick.{pick, lt_or_le}
use Rattle.base.specs.Cells.{laid, laid_in, laid_same}
use Rattle.base.specs.Refusals.{refused-early, refused-late, refused_not}
use Rattle.base.specs.Sums.{how_many-same}
use Rattle.base.specs.Tests.{refusal, both}
use Rattle.h265.specs.Scan.{col_of, row_of}
use Rattle.h265.specs.ScanLaws.{in_block}
use Rattle.quant.specs.Quant.{y_of, u_of, v_of}
use Rattle.model.specs.ConfigLaws.{depth-most, config_bounds}
use Rattle.model.specs.Domain.{size_in, most}
use Rattle.model.specs.DomainLaws.{size_bounds}
use Rattle.model.specs.Whole.{block_size_in, same, matches, matches_size, format_holds, entries_hold, assignable}
use Rattle.model.specs.declared.Levels.{Levels}
use Rattle.model.specs.declared.PaletteConfig.{PaletteConfig}
use Rattle.model.specs.declared.PaletteCu.{PaletteCu}
use Rattle.model.specs.declared.SourceBlock.{SourceBlock}
use Rattle.entries.specs.Entries.{palette_of}
use Rattle.samples.specs.Samples.{color_at, cell_at}
use Rattle.source.specs.Source.{source_tests}
use Rattle.source.specs.Laws.{source_numbers, Fetched, fetched}
use Rattle.assign.specs.Assign.{index_of, escapes_of}
use Rattle.levels.specs.Laws.{Small}
use Rattle.levels.specs.Levels.{scale_of, levels_at}
use Rattle.figure.specs.Figure.{scan_sample, block_figure}
use Rattle.figure.specs.Laws.{in_rows, scan_same, block_same}
use Rattle.assigning.specs.Assigning.{Assigned, index_at, cell_levels, escapes, with_cells, with_sse, mapped, assigned, block_in, escapes_in, assign_refusal, assign_of}

-- ---- what refusals 1 to 7 leave

pub record Takes (cu : PaletteCu) : Type 0 where
  pub size : block_size_in cu ≡ true
  pub size_high : cu.size ≤ 32
  pub format : format_holds cu ≡ true
  pub some : 1 ≤ cu.palette_size
  pub few : leb cu.palette_size 64 ≡ true
  pub tolerance : leb cu.tolerance 16 ≡ true
  pub entries : entries_hold cu ≡ true

takes : (cu : PaletteCu) → assignable 64 cu ≡ true → Takes cu
unfolding assignable block_size_in
takes cu e =
    let a = both (block_size_in cu) _ e in
    let b = both (format_holds cu) _ a.1 in
    let s = both (leb 1 cu.palette_size) _ b.1 in
    let f = both (leb cu.palette_size 64) _ s.1 in
    let t = both (leb cu.tolerance 16) _ f.1 in
    let n = both (entries_hold cu) true t.1 in
    record {
      size = a.0;
      size_high = (size_bounds cu.size (both (size_in cu.size) _ a.0).0).1;
      format = b.0;
      some = leb-true _ _ s.0;
      few = f.0;
      tolerance = t.0;
      entries = n.0;
    }

pub record Matched (c : PaletteConfig) (cu : PaletteCu) : Type 0 where
  pub format : cu.chroma_idc ≡ c.chroma_idc
  pub luma : cu.bd_luma ≡ c.bd_luma
  pub chroma : cu.bd_chroma ≡ c.bd_chroma
  pub lossless : cu.lossless ≡ c.lossless

matched : (c : PaletteConfig) (cu : PaletteCu) → matches c cu ≡ true → Matched c cu
unfolding matches
matched c cu e =
    let f = both (eqb cu.chroma_idc c.chroma_idc) _ e in
    let l = both (eqb cu.bd_luma c.bd_luma) _ f.1 in
    let d = both (eqb cu.bd_chroma c.bd_chroma) _ l.1 in
    let s = both (same cu.lossless c.lossless) true d.1 in
    record { format = eqb-true _ _ f.0; luma = eqb-true _ _ l.0; chroma = eqb-true _ _ d.0; lossless = one cu.lossless c.lossless s.0 }
  where
    one : (a b : Bool) → same a b ≡ true → a ≡ b
    one true b e = sym e
    one false true e = e
    one false false e = refl

pub record BlockParts (c : PaletteConfig) (g : SourceBlock) (cu : PaletteCu) : Type 0 where
  pub takes : Takes cu
  pub matched : Matched c cu
  pub size : cu.size ≡ g.size

pub block_parts : (c : PaletteConfig) (g : SourceBlock) (cu : PaletteCu) → block_in c g cu ≡ true → BlockParts c g cu
unfolding block_in matches_size
block_parts c g cu e =
    let a = both (assignable 64 cu) _ e in
    let b = both (matches c cu) _ a.1 in
    record { takes = takes cu a.0; matched = matched c cu b.0; size = eqb-true _ _ (both (eqb cu.size g.size) true b.1).0 }

-- the samples are of at most 12 bits
pub cell-small : (luma cb cr : List ℕ) (c : PaletteConfig) (g : SourceBlock) → Fetched luma cb cr c g → (j : ℕ) → j < g.size * g.size → Small (cell_at luma cb cr c.chroma_idc g j)
cell-small luma cb cr c g f j h =
    let b = config_bounds c f.readable.config in
    let e = cell_at luma cb cr c.chroma_idc g j in
    let p = both (leb (y_of e) (most c.bd_luma)) _ (f.fit j h) in
    let q = both (leb (u_of e) (most c.bd_chroma)) _ p.1 in
    let r = both (leb (v_of e) (most c.bd_chroma)) true q.1 in
    let y = depth-most c.bd_luma b.luma in
    let u = depth-most c.bd_chroma b.chroma in
    record {
      y = omega (arith, leb-true (y_of e) (most c.bd_luma) p.0);
      u = omega (arith, leb-true (u_of e) (most c.bd_chroma) q.0);
      v = omega (arith, leb-true (v_of e) (most c.bd_chroma) r.0);
    }

color_small : (luma cb cr : List ℕ) (c : PaletteConfig) (g : SourceBlock) → Fetched luma cb cr c g → (x y : ℕ) → x < g.size → y < g.size → Small (color_at luma cb cr c.chroma_idc g x y)
unfolding cell_at
color_small luma cb cr c g f x y h k =
    rw (digits_div y h, digits_mod y h) at (cell-small luma cb cr c g f (y * g.size + x) (digits_lt k h))

-- ---- after refusals 1 to 7

unfoldable pub map_of : PaletteConfig → Bool → PaletteCu → (ℕ → ℕ → ℕ) → Assigned
map_of c transpose cu sample = record {
  refusal = pick (escapes_in transpose cu sample) 0 14;
  cu = pick (escapes_in transpose cu sample) (assigned c transpose cu sample) cu;
}

pub map-refused : (c : PaletteConfig) (transpose : Bool) (cu : PaletteCu) (sample : ℕ → ℕ → ℕ) → escapes_in transpose cu sample ≡ false → record { refusal = 14; cu = cu } ≡ map_of c transpose cu sample
unfolding map_of
map-refused c transpose cu sample e = rw e

pub map-made : (c : PaletteConfig) (transpose : Bool) (cu made : PaletteCu) (sample : ℕ → ℕ → ℕ) (f : ℕ) → escapes_in transpose cu sample ≡ true → made ≡ mapped c transpose cu sample → f ≡ block_figure (scale_of c) made sample
    → record { refusal = 0; cu = with_sse made f } ≡ map_of c transpose cu sample
unfolding map_of assigned
map-made c transpose cu made sample f e m h = rw (e, h, m)

-- ---- pictures that agree in the block

module _ (transpose : Bool) (cu : PaletteCu) (f g : ℕ → ℕ → ℕ) (agree : (x y : ℕ) → x < cu.size → y < cu.size → f x y ≡ g x y) where
  index_same : (j : ℕ) → j < cu.size * cu.size → index_at transpose cu f j ≡ index_at transpose cu g j
  unfolding index_at
  index_same j h = rw (scan_same transpose cu.size f g agree j h)

  escapes-same : escapes transpose cu f ≡ escapes transpose cu g
  unfolding escapes escapes_of
  escapes-same =
      how_many-same (cu.size * cu.size) _ _
      (λ j h. ap (λ (e : ℕ). eqb (index_of cu.tolerance (palette_of cu) cu.palette_size e) cu.palette_size) (scan_same transpose cu.size f g agree j h))

  levels-same : (c : PaletteConfig) (j : ℕ) → j < cu.size * cu.size → cell_levels c transpose cu f j ≡ cell_levels c transpose cu g j
  unfolding cell_levels
  levels-same c j h = rw (index_same j h, scan_same transpose cu.size f g agree j h)

  mapped-same : (c : PaletteConfig) → mapped c transpose cu f ≡ mapped c transpose cu g
  unfolding mapped
  mapped-same c =
      rw (
        escapes-same,
        laid_same (index_at transpose cu f) (index_at transpose cu g) cu.indices 0 (cu.size * cu.size) (λ j h. index_same (0 + j) (omega arith)),
        laid_same (cell_levels c transpose cu f) (cell_levels c transpose cu g) cu.escapes 0 (cu.size * cu.size) (λ j h. levels-same c (0 + j) (omega arith)),
      )

  assigned-same : (c : PaletteConfig) → assigned c transpose cu f ≡ assigned c transpose cu g
  unfolding assigned mapped
  assigned-same c = ap (λ (m : PaletteCu). with_sse m (block_figure (scale_of c) m f)) (mapped-same c) ∙ ap (with_sse (mapped c transpose cu g)) (block_same (scale_of c) (mapped c transpose cu g) f g agree)

  pub map_same : (c : PaletteConfig) → map_of c transpose cu f ≡ map_of c transpose cu g
  unfolding map_of escapes_in
  map_same c = rw (escapes-same, assigned-same c)

-- ---- what the code makes of the samples in scan order

-- the samples in scan order are small where those of the block are
scan_small_by : (transpose : Bool) (size : ℕ) (sample : ℕ → ℕ → ℕ) → ((x y : ℕ) → x < size → y < size → Small (sample x y)) → (j : ℕ) → j < size * size → Small (scan_sample transpose size sample j)
unfolding scan_sample
scan_small_by true size sample h j l = let b = in_block size j l in h (row_of size j) (col_of size j) b.1 b.0
scan_small_by false size sample h j l = let b = in_block size j l in h (col_of size j) (row_of size j) b.0 b.1

pub scan_small : (transpose : Bool) (size : ℕ) (cells : List ℕ) → ((p : ℕ) → p < size * size → Small (get_or cells p 0)) → (j : ℕ) → j < size * size → Small (scan_sample transpose size (in_rows size cells) j)
scan_small transpose size cells h = scan_small_by transpose size (in_rows size cells) (λ x y k l. h (y * size + x) (digits_lt l k))

module _ (c : PaletteConfig) (transpose : Bool) (cu : PaletteCu) (sample : ℕ → ℕ → ℕ) (scan palette : List ℕ) (p : palette ≡ palette_of cu)
    (h : (j : ℕ) → j < cu.size * cu.size → get_or scan j 0 ≡ scan_sample transpose cu.size sample j) where
  pub escapes-made : (e : ℕ) → e ≡ escapes_of cu.tolerance palette cu.palette_size (cu.size * cu.size) (λ (j : ℕ). get_or scan j 0) → e ≡ escapes transpose cu sample
  unfolding escapes escapes_of
  escapes-made e k =
      k
      ∙ rw p
      (how_many-same (cu.size * cu.size) _ _
      (λ j l. ap (λ (x : ℕ). eqb (index_of cu.tolerance (palette_of cu) cu.palette_size x) cu.palette_size) (h j l)))

  indices-made : (l : List ℕ) → l ≡ laid (λ (j : ℕ). index_of cu.tolerance palette cu.palette_size (get_or scan j 0)) cu.indices 0 (cu.size * cu.size)
      → l ≡ laid (index_at transpose cu sample) cu.indices 0 (cu.size * cu.size)
  unfolding index_at
  indices-made l k =
      k
      ∙ laid_same _ _ cu.indices 0 (cu.size * cu.size)
      (λ j m. rw (p, h (0 + j) (omega arith)))

  levels-made : (l : List ℕ) (v : List Levels) → cu.size * cu.size ≤ length cu.indices → l ≡ laid (index_at transpose cu sample) cu.indices 0 (cu.size * cu.size)
      → v ≡ laid (λ (j : ℕ). levels_at (scale_of c) cu.palette_size (get_or l j 0) (get_or scan j 0)) cu.escapes 0 (cu.size * cu.size)
      → v ≡ laid (cell_levels c transpose cu sample) cu.escapes 0 (cu.size * cu.size)
  unfolding cell_levels
  levels-made l v o k q =
      q
      ∙ laid_same _ _ cu.escapes 0 (cu.size * cu.size)
      (λ j m. rw (h (0 + j) (omega arith), k, laid_in (index_at transpose cu sample) cu.indices 0 (cu.size * cu.size) (0 + j) 0 (omega arith) (omega arith) (omega arith)))

  -- the block
  pub mapped-made : (e : ℕ) (l : List ℕ) (v : List Levels) (made : PaletteCu) → cu.size * cu.size ≤ length cu.indices
      → made ≡ with_cells cu (not (eqb e 0)) transpose l v
      → e ≡ escapes_of cu.tolerance palette cu.palette_size (cu.size * cu.size) (λ (j : ℕ). get_or scan j 0)
      → l ≡ laid (λ (j : ℕ). index_of cu.tolerance palette cu.palette_size (get_or scan j 0)) cu.indices 0 (cu.size * cu.size)
      → v ≡ laid (λ (j : ℕ). levels_at (scale_of c) cu.palette_size (get_or l j 0) (get_or scan j 0)) cu.escapes 0 (cu.size * cu.size)
      → made ≡ mapped c transpose cu sample
  unfolding mapped
  mapped-made e l v made o m x y z =
      let i = indices-made l y in
      m ∙ rw (escapes-made e x, levels-made l v o i z, i)

-- ---- the entry point's answers

module _ (luma cb cr : List ℕ) (c : PaletteConfig) (g : SourceBlock) (transpose : Bool) (cu : PaletteCu) where
  abbrev sample : ℕ → ℕ → ℕ
  sample = color_at luma cb cr c.chroma_idc g

  abbrev rest : List (Bool × ℕ)
  rest = (block_in c g cu, 7) ∷ (escapes_in transpose cu sample, 14) ∷ []

  refused : (k : ℕ) → assign_refusal luma cb cr c g transpose cu ≡ k → 1 ≤ k → record { refusal = k; cu = cu } ≡ assign_of luma cb cr c g transpose cu
  unfolding assign_of
  refused k e o = rw (e, ne_eqb k 0 (λ z. omega arith))

  -- 1 to 4
  pub refused-source : (k : ℕ) → k ≡ refusal (source_tests luma cb cr c g) → 1 ≤ k → record { refusal = k; cu = cu } ≡ assign_of luma cb cr c g transpose cu
  unfolding assign_refusal
  refused-source k e o = refused k (refused-early (source_tests luma cb cr c g) rest k (source_numbers luma cb cr c g) (sym e) o) o

  -- 7
  pub refused_block : refusal (source_tests luma cb cr c g) ≡ 0 → block_in c g cu ≡ false → record { refusal = 7; cu = cu } ≡ assign_of luma cb cr c g transpose cu
  unfolding assign_refusal
  refused_block e b = refused 7 (refused-late (source_tests luma cb cr c g) rest (source_numbers luma cb cr c g) e ∙ rw b) (omega arith)

  -- 14 or the block made
  pub map-answer : refusal (source_tests luma cb cr c g) ≡ 0 → block_in c g cu ≡ true → map_of c transpose cu sample ≡ assign_of luma cb cr c g transpose cu
  unfolding assign_refusal assign_of map_of
  map-answer e b = rw (refused-late (source_tests luma cb cr c g) rest (source_numbers luma cb cr c g) e, b) (last (escapes_in transpose cu sample))
    where
      last : (t : Bool) → ◌≡◌ {A = Assigned} (record { refusal = pick t 0 14; cu = pick t (assigned c transpose cu sample) cu }) (record { refusal = pick t 0 14; cu = pick (eqb (pick t 0 14) 0) (assigned c transpose cu sample) cu })
      last true = refl
      last false = refl

-- ---- what is accepted

pub record Accepted (luma cb cr : List ℕ) (c : PaletteConfig) (g : SourceBlock) (transpose : Bool) (cu : PaletteCu) : Type 0 where
  pub takes : Takes cu
  pub matched : Matched c cu
  pub small : (j : ℕ) → j < cu.size * cu.size → Small (scan_sample transpose cu.size (color_at luma cb cr c.chroma_idc g) j)

pub accepted : (luma cb cr : List ℕ) (c : PaletteConfig) (g : SourceBlock) (transpose : Bool) (cu : PaletteCu) → assign_refusal luma cb cr c g transpose cu ≡ 0 → Accepted luma cb cr c g transpose cu
unfolding assign_refusal
accepted luma cb cr c g transpose cu e =
    let ts = source_tests luma cb cr c g in
    let us : List (Bool × ℕ) = (escapes_in transpose cu (color_at luma cb cr c.chroma_idc g), 14) ∷ [] in
    let n = source_numbers luma cb cr c g in
    let k : refusal ts ≡ 0 =
    ⊎_elim
    (λ (o : 0 < refusal ts). absurd (omega (arith, refused-early ts ((block_in c g cu, 7) ∷ us) (refusal ts) n refl o)))
    (λ (o : refusal ts ≤ 0). omega arith)
    (lt_or_le 0 (refusal ts))
    in
    let f = fetched luma cb cr c g k in
    let b = block_parts c g cu (refused_not (block_in c g cu) 7 us (omega arith) (sym (refused-late ts ((block_in c g cu, 7) ∷ us) n k) ∙ e)).0 in
    record {
      takes = b.takes;
      matched = b.matched;
      small = scan_small_by transpose cu.size (color_at luma cb cr c.chroma_idc g) (λ x y h l. color_small luma cb cr c g f x y (rw b.size at h) (rw b.size at l));
    }
