-- The planes afterwards from what is laid on them, the answers of the entry point, and what it leaves.
use Rattle.std.specs.Prelude.{Bool, true, false, not, List, [], ◌∷◌, ◌≡◌, ℕ, ◌+◌, ◌*◌, ◌≤◌, ◌<◌, eqb, get_or, length}
use Rattle.std.proofs.Common.{sym, ◌∙◌, div-mul-le_self, arith}
use borrow.Author.Tests.{ne_eqb, eqb-true, eqb-false, not-true}
use Rattle.base.specs.Pick.{pick, either}
use Rattle.base.specs.Cells.{laid, laid-length, laid_same}
use Rattle.base.specs.Refusals.{refused-early, refused-late}
use Rattle.base.specs.Tests.{every, any, both, refusal, up_to, up_to-at}
use Rattle.model.specs.Domain.{sub_w, sub_h}
use Rattle.model.specs.DomainLaws.{source-bounds}
use Rattle.model.specs.Whole.{holds, matches, matches_size}
use Rattle.model.specs.declared.PaletteConfig.{PaletteConfig}
use Rattle.model.specs.declared.PaletteCu.{PaletteCu}
use Rattle.model.specs.declared.SourceBlock.{SourceBlock}
use Rattle.entries.specs.Entries.{palette_of}
use Rattle.levels.specs.Levels.{value_at}
use Rattle.source.specs.Laws.{some}
use Rattle.sse.specs.Sse.{block_in}
use Rattle.sse.specs.Laws.{same_size}
use Rattle.onto.specs.declared.Onto.{Onto}
use Rattle.onto.specs.Onto.{covers, after}
use Rattle.onto.specs.Laws.{Apt, from_cells, scan_rows, after-cells, after_outside}
use Rattle.targets.specs.Targets.{target_tests}
use Rattle.targets.specs.Laws.{target_numbers, Ready}
use Rattle.recon.specs.Recon.{cell_color, sample_of, luma_onto, chroma_onto, luma_after, chroma_after, recon_refusal, recon_of}

-- ---- the block on its planes

sub_one : (b : Bool) → 1 ≤ pick b 2 1
sub_one true = omega arith
sub_one false = omega arith

sub_w-one : (format : ℕ) → 1 ≤ sub_w format
unfolding sub_w
sub_w-one format = sub_one (any (eqb format 1 ∷ eqb format 2 ∷ []))

sub_h-one : (format : ℕ) → 1 ≤ sub_h format
unfolding sub_h
sub_h-one format = sub_one (eqb format 1)

pub luma_apt : (stride : ℕ) (g : SourceBlock) (size : ℕ) (transpose : Bool) (n : ℕ) → size ≤ 32 → stride * g.yh ≤ n → Apt (luma_onto stride g size transpose) n
luma_apt stride g size transpose n k h =
    let o : 1 ≤ 1 = omega arith in
    let f : size * 1 ≤ size = omega arith in
    record { holds = h; small = k; across_one = o; across_fits = f; down_one = o; down_fits = f }

pub chroma_apt : (stride format : ℕ) (g : SourceBlock) (size : ℕ) (transpose : Bool) (comp n : ℕ) → size ≤ 32 → stride * g.chh ≤ n → Apt (chroma_onto stride format g size transpose comp) n
chroma_apt stride format g size transpose comp n k h =
    record {
      holds = h;
      small = k;
      across_one = sub_w-one format;
      across_fits = div-mul-le_self size (sub_w format);
      down_one = sub_h-one format;
      down_fits = div-mul-le_self size (sub_h format);
    }

-- the block's part of a plane lies in the block
pub record Sized (o : Onto) : Type 0 where
  pub small : o.size ≤ 32
  pub across_fits : o.wide * o.across ≤ o.size
  pub down_fits : o.high * o.down ≤ o.size

pub luma_sized : (stride : ℕ) (g : SourceBlock) (size : ℕ) (transpose : Bool) → size ≤ 32 → Sized (luma_onto stride g size transpose)
luma_sized stride g size transpose k = let f : size * 1 ≤ size = omega arith in record { small = k; across_fits = f; down_fits = f }

pub chroma-sized : (stride format : ℕ) (g : SourceBlock) (size : ℕ) (transpose : Bool) (comp : ℕ) → size ≤ 32 → Sized (chroma_onto stride format g size transpose comp)
chroma-sized stride format g size transpose comp k = record { small = k; across_fits = div-mul-le_self size (sub_w format); down_fits = div-mul-le_self size (sub_h format) }

-- ---- a block that is not refused

pub record Taken (ys cs : ℕ) (c : PaletteConfig) (g : SourceBlock) (cu : PaletteCu) (y b r : ℕ) : Type 0 where
  pub small : cu.size ≤ 32
  pub luma : Apt (luma_onto ys g cu.size cu.transpose) y
  pub cb : 1 ≤ cu.chroma_idc → Apt (chroma_onto cs cu.chroma_idc g cu.size cu.transpose 1) b
  pub cr : 1 ≤ cu.chroma_idc → Apt (chroma_onto cs cu.chroma_idc g cu.size cu.transpose 2) r

same_format : (c : PaletteConfig) (g : SourceBlock) (cu : PaletteCu) → block_in c g cu ≡ true → cu.chroma_idc ≡ c.chroma_idc
unfolding block_in matches
same_format c g cu e =
    let a = both (holds 64 cu) (every (matches c cu ∷ matches_size g.size cu ∷ [])) e in
    let b = both (matches c cu) (every (matches_size g.size cu ∷ [])) a.1 in
    eqb-true cu.chroma_idc c.chroma_idc (both (eqb cu.chroma_idc c.chroma_idc) _ b.0).0

pub taken : (ys cs : ℕ) (c : PaletteConfig) (g : SourceBlock) (cu : PaletteCu) (y b r : ℕ) → Ready c g ys cs y b r → block_in c g cu ≡ true → Taken ys cs c g cu y b r
taken ys cs c g cu y b r d e =
    let z = same_size c g cu e in
    let f = same_format c g cu e in
    let k : cu.size ≤ 32 = omega (arith, (source-bounds c.chroma_idc g d.source).small) in
    record {
      small = k;
      luma = luma_apt ys g cu.size cu.transpose y k d.luma;
      cb = λ h. chroma_apt cs cu.chroma_idc g cu.size cu.transpose 1 b k (d.cb (omega arith));
      cr = λ h. chroma_apt cs cu.chroma_idc g cu.size cu.transpose 2 r k (d.cr (omega arith));
    }

-- ---- the planes from the colours of the cells that lie in them

-- a list that had room for a block's cells has it with some of them laid
pub cells-room : (f : ℕ → ℕ) (l out : List ℕ) (m size : ℕ) → out ≡ laid f l 0 m → size * size ≤ length l → size * size ≤ length out
cells-room f l out m size e h = rw (e, laid-length f l 0 m) h

module _ (stride : ℕ) (c : PaletteConfig) (g : SourceBlock) (cu : PaletteCu) (o : Onto) (l values plane out : List ℕ) (m n : ℕ) where
  pub luma_made : o ≡ luma_onto stride g cu.size cu.transpose → Apt (luma_onto stride g cu.size cu.transpose) m → scan_rows o ≤ n → n * cu.size ≤ length l → values ≡ laid (cell_color c cu) l 0 (n * cu.size)
      → out ≡ after o (from_cells o values) plane → out ≡ luma_after stride c g cu plane
  unfolding luma_after sample_of
  luma_made e a k h q w = w ∙ rw e (after-cells (luma_onto stride g cu.size cu.transpose) (cell_color c cu) l values plane m n a (rw e at k) h q)

  pub chroma-made : (comp : ℕ) → o ≡ chroma_onto stride cu.chroma_idc g cu.size cu.transpose comp
      → (1 ≤ cu.chroma_idc → Apt (chroma_onto stride cu.chroma_idc g cu.size cu.transpose comp) m)
      → (1 ≤ cu.chroma_idc → scan_rows (chroma_onto stride cu.chroma_idc g cu.size cu.transpose comp) ≤ n) → n * cu.size ≤ length l → values ≡ laid (cell_color c cu) l 0 (n * cu.size)
      → out ≡ pick (eqb cu.chroma_idc 0) plane (after o (from_cells o values) plane) → out ≡ chroma_after stride c g cu comp plane
  unfolding chroma_after sample_of
  chroma-made comp e a k h q w =
      either (eqb cu.chroma_idc 0)
      (λ t. w ∙ rw t)
      (λ t.
      let f = some cu.chroma_idc (eqb-false cu.chroma_idc 0 t) in
      w ∙ rw (t, e) (after-cells (chroma_onto stride cu.chroma_idc g cu.size cu.transpose comp) (cell_color c cu) l values plane m n (a f) (k f) h q))

-- ---- cells none of which escapes

pub painted : (c : PaletteConfig) (cu : PaletteCu) (palette l : List ℕ) (m : ℕ) → palette ≡ palette_of cu → up_to m (λ j. not (eqb (get_or cu.indices j 0) cu.palette_size)) ≡ true
    → laid (λ j. get_or palette (get_or cu.indices j 0) 0) l 0 m ≡ laid (cell_color c cu) l 0 m
unfolding cell_color value_at
painted c cu palette l m p e = laid_same (λ j. get_or palette (get_or cu.indices j 0) 0) (cell_color c cu) l 0 m (λ j h. one (0 + j) (omega arith))
  where
    one : (j : ℕ) → j < m → get_or palette (get_or cu.indices j 0) 0 ≡ cell_color c cu j
    one j h = rw (p, not-true (eqb (get_or cu.indices j 0) cu.palette_size) (up_to-at (λ i. not (eqb (get_or cu.indices i 0) cu.palette_size)) m e j h))

-- ---- the answers

module _ (luma cb cr : List ℕ) (ys cs : ℕ) (c : PaletteConfig) (g : SourceBlock) (cu : PaletteCu) where
  abbrev tests : List (Bool × ℕ)
  tests = target_tests c g ys cs (length luma) (length cb) (length cr)

  -- a refusal leaves the planes
  pub refused : (k : ℕ) → recon_refusal luma cb cr ys cs c g cu ≡ k → 1 ≤ k → (k, luma, cb, cr) ≡ recon_of luma cb cr ys cs c g cu
  unfolding recon_of
  refused k e o = rw (e, ne_eqb k 0 (λ z. omega arith))

  -- 1 to 3
  pub refused_target : (k : ℕ) → k ≡ refusal tests → 1 ≤ k → (k, luma, cb, cr) ≡ recon_of luma cb cr ys cs c g cu
  unfolding recon_refusal
  refused_target k e o = refused k (refused-early tests ((block_in c g cu, 7) ∷ []) k (target_numbers c g ys cs (length luma) (length cb) (length cr)) (sym e) o) o

  -- 7
  pub refused_block : refusal tests ≡ 0 → block_in c g cu ≡ false → (7, luma, cb, cr) ≡ recon_of luma cb cr ys cs c g cu
  unfolding recon_refusal
  refused_block e b = refused 7 (refused-late tests ((block_in c g cu, 7) ∷ []) (target_numbers c g ys cs (length luma) (length cb) (length cr)) e ∙ rw b) (omega arith)

  not_refused : refusal tests ≡ 0 → block_in c g cu ≡ true → recon_refusal luma cb cr ys cs c g cu ≡ 0
  unfolding recon_refusal
  not_refused e b = refused-late tests ((block_in c g cu, 7) ∷ []) (target_numbers c g ys cs (length luma) (length cb) (length cr)) e ∙ rw b

  pub laid-answer : (l b r : List ℕ) → refusal tests ≡ 0 → block_in c g cu ≡ true → l ≡ luma_after ys c g cu luma → b ≡ chroma_after cs c g cu 1 cb → r ≡ chroma_after cs c g cu 2 cr → (0, l, b, r) ≡ recon_of luma cb cr ys cs c g cu
  unfolding recon_of
  laid-answer l b r e t p q s = rw (not_refused e t, p, q, s)

-- ---- every sample outside the block is as it was, refused or not

chroma_outside : (stride : ℕ) (c : PaletteConfig) (g : SourceBlock) (cu : PaletteCu) (comp : ℕ) (plane : List ℕ) (p : ℕ) → p < length plane → covers (chroma_onto stride cu.chroma_idc g cu.size cu.transpose comp) p ≡ false → get_or (chroma_after stride c g cu comp plane) p 0 ≡ get_or plane p 0
unfolding chroma_after
chroma_outside stride c g cu comp plane p h e =
    either (eqb cu.chroma_idc 0)
    (λ t. rw t)
    (λ t. rw t (after_outside (chroma_onto stride cu.chroma_idc g cu.size cu.transpose comp) (sample_of c cu comp) plane p h e))

module _ (luma cb cr : List ℕ) (ys cs : ℕ) (c : PaletteConfig) (g : SourceBlock) (cu : PaletteCu) (p : ℕ) where
  pub outside_luma : p < length luma → covers (luma_onto ys g cu.size cu.transpose) p ≡ false → get_or (recon_of luma cb cr ys cs c g cu).1 p 0 ≡ get_or luma p 0
  unfolding recon_of luma_after
  outside_luma h e =
      either (eqb (recon_refusal luma cb cr ys cs c g cu) 0)
      (λ t. rw t (after_outside (luma_onto ys g cu.size cu.transpose) (sample_of c cu 0) luma p h e))
      (λ t. rw t)

  pub outside_cb : p < length cb → covers (chroma_onto cs cu.chroma_idc g cu.size cu.transpose 1) p ≡ false → get_or (recon_of luma cb cr ys cs c g cu).2 p 0 ≡ get_or cb p 0
  unfolding recon_of
  outside_cb h e =
      either (eqb (recon_refusal luma cb cr ys cs c g cu) 0)
      (λ t. rw t (chroma_outside cs c g cu 1 cb p h e))
      (λ t. rw t)

  pub outside_cr : p < length cr → covers (chroma_onto cs cu.chroma_idc g cu.size cu.transpose 2) p ≡ false → get_or (recon_of luma cb cr ys cs c g cu).3 p 0 ≡ get_or cr p 0
  unfolding recon_of
  outside_cr h e =
      either (eqb (recon_refusal luma cb cr ys cs c g cu) 0)
      (λ t. rw t (chroma_outside cs c g cu 2 cr p h e))
      (λ t. rw t)
