-- The answers of the entry point.
use Rattle.std.specs.Prelude.{true, false, List, [], ◌∷◌, ◌≡◌, refl, ℕ, ◌*◌, ◌≤◌, get_or, length, eqb}
use Rattle.std.proofs.Common.{ap, sym, ◌∙◌, arith}
use borrow.Author.Tests.{ne_eqb, eqb-true}
use Rattle.base.specs.Cells.{laid, laid_in}
use Rattle.base.specs.Refusals.{refused-early, refused-late}
use Rattle.base.specs.Tests.{every, both, refusal}
use Rattle.model.specs.Whole.{no_levels, holds, matches, matches_size}
use Rattle.model.specs.declared.PaletteConfig.{PaletteConfig}
use Rattle.model.specs.declared.PaletteCu.{PaletteCu}
use Rattle.model.specs.declared.SourceBlock.{SourceBlock}
use Rattle.entries.specs.Entries.{palette_of}
use Rattle.samples.specs.Samples.{color_at}
use Rattle.source.specs.Source.{source_tests, cells_in}
use Rattle.source.specs.Laws.{source_numbers, fetched, cells_color}
use Rattle.levels.specs.Levels.{scale_of, value_at}
use Rattle.levels.specs.declared.Scale.{Scale}
use Rattle.figure.specs.Figure.{figure_of, block_figure}
use Rattle.figure.specs.Laws.{in_rows, figure_same, block_same}
use Rattle.sse.specs.Sse.{block_in, sse_refusal, sse_of}

-- values that are laid make the block's figure
pub figure_made : (s : Scale) (cu : PaletteCu) (sample : ℕ → ℕ → ℕ) (values palette l : List ℕ) → palette ≡ palette_of cu → cu.size * cu.size ≤ length l
    → values ≡ laid (λ (j : ℕ). value_at s palette cu.palette_size (get_or cu.indices j 0) (get_or cu.escapes j no_levels)) l 0 (cu.size * cu.size)
    → figure_of cu.chroma_idc cu.transpose cu.size (λ (j : ℕ). get_or values j 0) sample ≡ block_figure s cu sample
unfolding block_figure
figure_made s cu sample values palette l p o e =
    figure_same cu.chroma_idc cu.transpose cu.size _ _ sample sample
    (λ j h.
    ap (λ (z : List ℕ). get_or z j 0) e
    ∙ laid_in (λ (i : ℕ). value_at s palette cu.palette_size (get_or cu.indices i 0) (get_or cu.escapes i no_levels)) l 0 (cu.size * cu.size) j 0 (omega arith) (omega arith) (omega arith)
    ∙ ap (λ (z : List ℕ). value_at s z cu.palette_size (get_or cu.indices j 0) (get_or cu.escapes j no_levels)) p)
    (λ x y h k. refl)

-- the block's size is the call's
pub same_size : (c : PaletteConfig) (g : SourceBlock) (cu : PaletteCu) → block_in c g cu ≡ true → cu.size ≡ g.size
unfolding block_in matches_size
same_size c g cu e =
    let a = both (holds 64 cu) (every (matches c cu ∷ matches_size g.size cu ∷ [])) e in
    let b = both (matches c cu) (every (matches_size g.size cu ∷ [])) a.1 in
    eqb-true cu.size g.size (both (eqb cu.size g.size) true b.1).0

module _ (luma cb cr : List ℕ) (c : PaletteConfig) (g : SourceBlock) (cu : PaletteCu) where
  refused : (k : ℕ) → sse_refusal luma cb cr c g cu ≡ k → 1 ≤ k → record { refusal = k; sse = 0 } ≡ sse_of luma cb cr c g cu
  unfolding sse_of
  refused k e o = rw (e, ne_eqb k 0 (λ z. omega arith))

  -- 1 to 4
  pub refused-source : (k : ℕ) → k ≡ refusal (source_tests luma cb cr c g) → 1 ≤ k → record { refusal = k; sse = 0 } ≡ sse_of luma cb cr c g cu
  unfolding sse_refusal
  refused-source k e o = refused k (refused-early (source_tests luma cb cr c g) ((block_in c g cu, 7) ∷ []) k (source_numbers luma cb cr c g) (sym e) o) o

  -- 7
  pub refused_block : refusal (source_tests luma cb cr c g) ≡ 0 → block_in c g cu ≡ false → record { refusal = 7; sse = 0 } ≡ sse_of luma cb cr c g cu
  unfolding sse_refusal
  refused_block e b = refused 7 (refused-late (source_tests luma cb cr c g) ((block_in c g cu, 7) ∷ []) (source_numbers luma cb cr c g) e ∙ rw b) (omega arith)

  -- the figure, from colours row by row
  pub figure_answer : (l : List ℕ) (f : ℕ) → refusal (source_tests luma cb cr c g) ≡ 0 → block_in c g cu ≡ true → g.size * g.size ≤ length l → f ≡ block_figure (scale_of c) cu (in_rows cu.size (cells_in luma cb cr c g l))
      → record { refusal = 0; sse = f } ≡ sse_of luma cb cr c g cu
  unfolding sse_of sse_refusal
  figure_answer l f e b o q =
      let z = same_size c g cu b in
      let w : f ≡ block_figure (scale_of c) cu (color_at luma cb cr c.chroma_idc g) =
      q
      ∙ block_same (scale_of c) cu (in_rows cu.size (cells_in luma cb cr c g l)) (color_at luma cb cr c.chroma_idc g)
      (λ x y h k. rw z (cells_color luma cb cr c g l (fetched luma cb cr c g e) o x y (rw z at h) (rw z at k)))
      in
      rw (refused-late (source_tests luma cb cr c g) ((block_in c g cu, 7) ∷ []) (source_numbers luma cb cr c g) e, b, w)
