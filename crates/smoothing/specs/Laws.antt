-- The answers of the entry point.
use Rattle.std.specs.Prelude.{Bool, true, false, List, [], ◌∷◌, ◌≡◌, refl, ℕ, ◌≤◌, ◌<◌, Float}
use Rattle.std.proofs.Common.{⊎_elim, sym, ◌∙◌, arith}
use borrow.Author.Tests.{ne_eqb}
use Rattle.std.specs.Float.{binary32}
use Rattle.std.specs.Float.Ieee.{mul}
use Rattle.base.specs.Pick.{lt_or_le}
use Rattle.base.specs.Refusals.{refused-early, refused-late, refused_not}
use Rattle.base.specs.Tests.{both, refusal}
use Rattle.model.specs.Whole.{holds}
use Rattle.model.specs.WholeLaws.{Whole, whole}
use Rattle.model.specs.declared.PaletteConfig.{PaletteConfig}
use Rattle.model.specs.declared.PaletteCu.{PaletteCu}
use Rattle.model.specs.declared.SourceBlock.{SourceBlock}
use Rattle.samples.specs.Samples.{color_at}
use Rattle.source.specs.Source.{source_tests}
use Rattle.source.specs.Laws.{source_numbers}
use Rattle.sse.specs.Sse.{block_in}
use Rattle.smoothblock.specs.Block.{answer}
use Rattle.smoothing.specs.Smoothing.{kind_in, smooth_refusal, smooth_of}

-- the block holds together
pub block_whole : (c : PaletteConfig) (g : SourceBlock) (cu : PaletteCu) → block_in c g cu ≡ true → Whole 64 cu
unfolding block_in
block_whole c g cu e = whole 64 cu (both (holds 64 cu) _ e).0

-- ---- the entry point's answers

module _ (luma cb cr : List ℕ) (c : PaletteConfig) (g : SourceBlock) (lambda bits : Float) (cu : PaletteCu) where
  abbrev rest : List (Bool × ℕ)
  rest = (block_in c g cu, 7) ∷ (kind_in cu.transpose cu.lossless, 15) ∷ []

  refused : (k : ℕ) → smooth_refusal luma cb cr c g cu ≡ k → 1 ≤ k → record { refusal = k; changed = false; cu = cu } ≡ smooth_of luma cb cr c g lambda bits cu
  unfolding smooth_of
  refused k e o = rw (e, ne_eqb k 0 (λ z. omega arith))

  -- 1 to 4
  pub refused-source : (k : ℕ) → k ≡ refusal (source_tests luma cb cr c g) → 1 ≤ k → record { refusal = k; changed = false; cu = cu } ≡ smooth_of luma cb cr c g lambda bits cu
  unfolding smooth_refusal
  refused-source k e o = refused k (refused-early (source_tests luma cb cr c g) rest k (source_numbers luma cb cr c g) (sym e) o) o

  -- 7
  pub refused_block : refusal (source_tests luma cb cr c g) ≡ 0 → block_in c g cu ≡ false → record { refusal = 7; changed = false; cu = cu } ≡ smooth_of luma cb cr c g lambda bits cu
  unfolding smooth_refusal
  refused_block e b = refused 7 (refused-late (source_tests luma cb cr c g) rest (source_numbers luma cb cr c g) e ∙ rw b) (omega arith)

  -- 15
  pub refused_kind : refusal (source_tests luma cb cr c g) ≡ 0 → block_in c g cu ≡ true → kind_in cu.transpose cu.lossless ≡ false → record { refusal = 15; changed = false; cu = cu } ≡ smooth_of luma cb cr c g lambda bits cu
  unfolding smooth_refusal
  refused_kind e b t = refused 15 (refused-late (source_tests luma cb cr c g) rest (source_numbers luma cb cr c g) e ∙ rw (b, t)) (omega arith)

  pub smooth_answer : refusal (source_tests luma cb cr c g) ≡ 0 → block_in c g cu ≡ true → kind_in cu.transpose cu.lossless ≡ true → answer c (mul binary32 lambda bits) cu (color_at luma cb cr c.chroma_idc g) ≡ smooth_of luma cb cr c g lambda bits cu
  unfolding smooth_refusal smooth_of
  smooth_answer e b t = rw (refused-late (source_tests luma cb cr c g) rest (source_numbers luma cb cr c g) e, b, t)

-- ---- what is accepted

pub accepted : (luma cb cr : List ℕ) (c : PaletteConfig) (g : SourceBlock) (cu : PaletteCu) → smooth_refusal luma cb cr c g cu ≡ 0 → block_in c g cu ≡ true
unfolding smooth_refusal
accepted luma cb cr c g cu e =
    let ts = source_tests luma cb cr c g in
    let us : List (Bool × ℕ) = (kind_in cu.transpose cu.lossless, 15) ∷ [] in
    let n = source_numbers luma cb cr c g in
    let k : refusal ts ≡ 0 =
    ⊎_elim
    (λ (o : 0 < refusal ts). absurd (omega (arith, refused-early ts ((block_in c g cu, 7) ∷ us) (refusal ts) n refl o)))
    (λ (o : refusal ts ≤ 0). omega arith)
    (lt_or_le 0 (refusal ts))
    in
    (refused_not (block_in c g cu) 7 us (omega arith) (sym (refused-late ts ((block_in c g cu, 7) ∷ us) n k) ∙ e)).0
