-- A block that analysis makes and assignment accepts is what demand 3 asks of a block.
use Rattle.std.specs.Prelude.{Bool, true, false, List, map, ◌≡◌, refl, ℕ, ◌*◌, ◌≤◌, length, take}
use Rattle.std.proofs.Common.{◌∙◌, arith, length-take}
use Rattle.std.proofs.lemmas.List.{length-map, length-replicate}
use Rattle.base.specs.Cells.{laid-length}
use Rattle.base.specs.Lists.{padded-length}
use Rattle.h265.specs.Reuse.{trues, flagged}
use Rattle.model.specs.Domain.{predictor_in, no_color}
use Rattle.model.specs.Whole.{holds}
use Rattle.model.specs.declared.Levels.{Levels}
use Rattle.model.specs.declared.PaletteConfig.{PaletteConfig}
use Rattle.model.specs.declared.PaletteCu.{PaletteCu}
use Rattle.model.specs.declared.PalettePredictor.{PalettePredictor}
use Rattle.model.specs.declared.SourceBlock.{SourceBlock}
use Rattle.entries.specs.Entries.{packed_of}
use Rattle.samples.specs.Samples.{color_at}
use Rattle.colors.specs.declared.ColorIndex.{ColorIndex}
use Rattle.census.specs.Census.{met, counts}
use Rattle.paint.specs.Laws.{palette_small, palette_flags}
use Rattle.analyse.specs.Analyse.{analysed}
use Rattle.blocks.specs.Blocks.{color_of, entries_of, block_of}
use Rattle.analysis.specs.Analyze.{cells_of, answer_of, analyze_of, analyze_with_of, tolerance_at}
use Rattle.analysis.specs.Holds.{Plane, Made, made_with_lem, lent_with}
use Rattle.analysis.specs.Laws.{palette_with}
use Rattle.assigning.specs.Assigning.{index_at, cell_levels, assign_of, assigned, mapped}
use Rattle.assigning.specs.Holds.{accepted-holds}

-- it holds together, has one flag for each entry of a valid predictor, and its palette starts with the colours that its flags mark there, in order
pub record Ready (p : PalettePredictor) (cu : PaletteCu) : Type 0 where
  pub whole : holds 64 cu ≡ true
  pub valid : predictor_in cu.chroma_idc cu.bd_luma cu.bd_chroma p ≡ true
  pub flags : cu.pred_size ≡ p.size
  pub starts : take (trues (take cu.pred_size cu.reused)) cu.palette ≡ flagged (take cu.pred_size cu.reused) (take p.size p.entries)

-- what the types give: the lengths of the arrays in a predictor and a block
pub record Arrays (p : PalettePredictor) (cu : PaletteCu) : Type 0 where
  pub entries : length p.entries ≡ 128
  pub palette : length cu.palette ≡ 64
  pub flags : length cu.reused ≡ 128
  pub indices : length cu.indices ≡ 1024
  pub levels : length cu.escapes ≡ 1024

-- what a made block has
record Fresh (p : PalettePredictor) (cu : PaletteCu) : Type 0 where
  arrays : Arrays p cu
  flags : cu.pred_size ≡ p.size
  valid : predictor_in cu.chroma_idc cu.bd_luma cu.bd_chroma p ≡ true

fresh : (luma cb cr : List ℕ) (c : PaletteConfig) (g : SourceBlock) (p : PalettePredictor) (k : ColorIndex) (tol : ℕ) → length p.entries ≡ 128 → (analyze_with_of luma cb cr c g p k tol).refusal ≡ 0 → Fresh p (analyze_with_of luma cb cr c g p k tol).cu
unfolding analyze_with_of answer_of block_of analysed
fresh luma cb cr c g p k tol full e =
    let xs = cells_of luma cb cr c g in
    let n = g.size * g.size in
    let es = entries_of p in
    let w = analysed tol 64 es xs n in
    let few : length (map color_of w.palette) ≤ 64 = rw (length-map w.palette color_of) (palette_small tol 64 es (met xs n) (counts xs n)) in
    let most : length w.flags ≤ 128 = omega (arith, palette_flags tol 64 es (met xs n) (counts xs n), length-map (take p.size p.entries) packed_of, length-take p.size p.entries) in
    let v = lent_with luma cb cr c g p k tol e in
    rw e
    (record {
      arrays = record {
        entries = full;
        palette = padded-length 64 no_color (map color_of w.palette) few;
        flags = padded-length 128 false w.flags most;
        indices = length-replicate {A = ℕ} 1024 0;
        levels = length-replicate {A = Levels} 1024 (record { y = 0; cb = 0; cr = 0 });
      };
      flags = refl;
      valid = v;
    })

-- the block that assignment makes is ready, and its arrays are as long as they were
pub record Seen (p : PalettePredictor) (cu : PaletteCu) : Type 0 where
  pub ready : Ready p cu
  pub arrays : Arrays p cu

module _ (p : PalettePredictor) (cu : PaletteCu) (f : Fresh p cu) where
  -- assignment keeps palette and flags
  kept : (luma cb cr : List ℕ) (c c₀ : PaletteConfig) (g g₀ : SourceBlock) (transpose : Bool) → Made c₀ g₀ p cu → (assign_of luma cb cr c g transpose cu).refusal ≡ 0 → Seen p (assign_of luma cb cr c g transpose cu).cu
  unfolding assign_of assigned mapped
  kept luma cb cr c c₀ g g₀ transpose m e =
      let h = accepted-holds luma cb cr c g transpose cu f.arrays.indices f.arrays.levels m.counts m.flags e in
      let sample = color_at luma cb cr c.chroma_idc g in
      rw e
      (record {
        ready = record { whole = rw e at h; valid = f.valid; flags = f.flags; starts = m.starts };
        arrays = record {
          entries = f.arrays.entries;
          palette = f.arrays.palette;
          flags = f.arrays.flags;
          indices = laid-length (index_at transpose cu sample) cu.indices 0 (cu.size * cu.size) ∙ f.arrays.indices;
          levels = laid-length (cell_levels c transpose cu sample) cu.escapes 0 (cu.size * cu.size) ∙ f.arrays.levels;
        };
      })

-- the facts of a call's types: samples are of 16 bits, and a predictor has room for 128 entries
module _ (luma cb cr luma' cb' cr' : List ℕ) (c c' : PaletteConfig) (g g' : SourceBlock) (p : PalettePredictor) (k : ColorIndex) (transpose : Bool) (samples : Plane luma) (full : length p.entries ≡ 128) where
  -- at a tolerance lent
  pub ready_with : (tol : ℕ) → (analyze_with_of luma cb cr c g p k tol).refusal ≡ 0
      → (assign_of luma' cb' cr' c' g' transpose (analyze_with_of luma cb cr c g p k tol).cu).refusal ≡ 0
      → Seen p (assign_of luma' cb' cr' c' g' transpose (analyze_with_of luma cb cr c g p k tol).cu).cu
  ready_with tol a b = kept p (analyze_with_of luma cb cr c g p k tol).cu (fresh luma cb cr c g p k tol full a) luma' cb' cr' c' c g' g transpose (made_with_lem luma cb cr c g p k samples full tol a) b

  -- at the luma QP's tolerance
  pub ready : (analyze_of luma cb cr c g p k).refusal ≡ 0
      → (assign_of luma' cb' cr' c' g' transpose (analyze_of luma cb cr c g p k).cu).refusal ≡ 0
      → Seen p (assign_of luma' cb' cr' c' g' transpose (analyze_of luma cb cr c g p k).cu).cu
  ready a b = let w = palette_with luma cb cr c g p k in rw w (ready_with (tolerance_at c) (rw w at a) (rw w at b))
