-- Every block that assignment accepts holds together, where its reuse flags and signalled entries do, as analysis makes them; and its cells are within tolerance.
use Rattle.std.specs.Prelude.{Bool, false, not, List, ◌≡◌, refl, ℕ, ◌+◌, ◌*◌, ◌-◌, ◌≤◌, ◌<◌, min, get_or, length}
use Rattle.std.proofs.Math.Bool.{true}
use Rattle.std.proofs.Common.{sym, ◌∙◌, mul-le-mul, arith}
use Rattle.std.proofs.Math.Dec.{eqb, leb}
use borrow.Author.Tests.{le-leb, eqb-true, eqb-false, ne_eqb}
use Rattle.base.specs.Pick.{pick, either, true_false}
use Rattle.base.specs.Cells.{laid, laid_in}
use Rattle.base.specs.Sums.{how_many_zero}
use Rattle.base.specs.Tests.{at_up_to}
use Rattle.h265.specs.EscapeLaws.{step_at-low}
use Rattle.h265.specs.Strings.{bit}
use Rattle.quant.specs.Quant.{y_of, u_of, v_of, dist, quantised, level_of}
use Rattle.quant.specs.QuantLaws.{level-small}
use Rattle.model.specs.Domain.{most}
use Rattle.model.specs.Whole.{max_index, block_size_in, format_holds, counts_hold, entries_hold, level_in, levels_in, no_levels, cell_holds, empty_holds, holds}
use Rattle.model.specs.declared.PaletteConfig.{PaletteConfig}
use Rattle.model.specs.declared.PaletteCu.{PaletteCu}
use Rattle.model.specs.declared.SourceBlock.{SourceBlock}
use Rattle.entries.specs.Entries.{palette_of}
use Rattle.samples.specs.Samples.{color_at}
use Rattle.assign.specs.Assign.{escapes_of}
use Rattle.assign.specs.Laws.{index_le, index-within}
use Rattle.levels.specs.Laws.{Small}
use Rattle.levels.specs.Levels.{scale_of, levels_of, levels_at}
use Rattle.figure.specs.Figure.{scan_sample}
use Rattle.assigning.specs.Assigning.{index_at, cell_levels, escapes, mapped, assigned, assign_of}
use Rattle.assigning.specs.Laws.{Takes, Matched, accepted}

-- ---- levels

-- the level of a value of 12 bits is in range
level_in_lem : (lossless : Bool) (depth step v : ℕ) → 40 ≤ step → v ≤ 4095 → level_in lossless depth (level_of lossless step (most depth) v) ≡ true
unfolding level_in level_of
level_in_lem true depth step v h k = le-leb (min v (most depth)) (most depth) (omega arith)
level_in_lem false depth step v h k = le-leb (quantised step (most depth) v) 32767 (level-small false step (most depth) v h k)

used_in : (used lossless : Bool) (depth l : ℕ) → level_in lossless depth l ≡ true → level_in lossless depth (pick used l 0) ≡ true
unfolding level_in
used_in true lossless depth l e = e
used_in false lossless depth l e = le-leb 0 (pick lossless (most depth) 32767) (omega arith)

-- the levels of a colour of 12 bits a component are in range
levels_in_lem : (c : PaletteConfig) (cu : PaletteCu) (e : ℕ) → Matched c cu → Small e → levels_in cu (levels_of (scale_of c) e) ≡ true
unfolding levels_in levels_of scale_of
levels_in_lem c cu e m s =
    rw (
      m.lossless,
      m.luma,
      m.chroma,
      level_in_lem c.lossless c.bd_luma _ (y_of e) (step_at-low c.qp_y) s.y,
      used_in (not (eqb c.chroma_idc 0)) c.lossless c.bd_chroma _ (level_in_lem c.lossless c.bd_chroma _ (u_of e) (step_at-low c.qp_cb) s.u),
      used_in (not (eqb c.chroma_idc 0)) c.lossless c.bd_chroma _ (level_in_lem c.lossless c.bd_chroma _ (v_of e) (step_at-low c.qp_cr) s.v),
    )
    (same (eqb cu.chroma_idc 0))
  where
    same : (t : Bool) → pick (pick t true true) true false ≡ true
    same true = refl
    same false = refl

-- ---- cells

module _ (c : PaletteConfig) (transpose : Bool) (cu : PaletteCu) (sample : ℕ → ℕ → ℕ) (t : Takes cu) (m : Matched c cu) (small : (j : ℕ) → j < cu.size * cu.size → Small (scan_sample transpose cu.size sample j))
    (li : cu.size * cu.size ≤ length cu.indices) (le : cu.size * cu.size ≤ length cu.escapes) where
  index-at : (i : ℕ) → i < cu.size * cu.size → get_or (laid (index_at transpose cu sample) cu.indices 0 (cu.size * cu.size)) i 0 ≡ index_at transpose cu sample i
  index-at i h = laid_in (index_at transpose cu sample) cu.indices 0 (cu.size * cu.size) i 0 (omega arith) (omega arith) (omega arith)

  levels-at : (i : ℕ) → i < cu.size * cu.size → get_or (laid (cell_levels c transpose cu sample) cu.escapes 0 (cu.size * cu.size)) i no_levels ≡ cell_levels c transpose cu sample i
  levels-at i h = laid_in (cell_levels c transpose cu sample) cu.escapes 0 (cu.size * cu.size) i no_levels (omega arith) (omega arith) (omega arith)

  -- a cell of the block made that does not escape is within tolerance of its entry
  pub cell-within : (i : ℕ) → i < cu.size * cu.size → get_or (assigned c transpose cu sample).indices i 0 < cu.palette_size
      → dist (scan_sample transpose cu.size sample i) (get_or (palette_of cu) (get_or (assigned c transpose cu sample).indices i 0) 0) ≤ cu.tolerance
  unfolding assigned mapped index_at
  cell-within i h k =
      let l = rw (index-at i h) at k in
      rw (index-at i h) (index-within cu.tolerance (palette_of cu) cu.palette_size (scan_sample transpose cu.size sample i) l)

  -- where a cell escapes the flag says so
  flagged : (i : ℕ) → i < cu.size * cu.size → eqb (index_at transpose cu sample i) cu.palette_size ≡ true → not (eqb (escapes transpose cu sample) 0) ≡ true
  unfolding escapes escapes_of index_at
  flagged i h e =
      either (eqb (escapes transpose cu sample) 0)
      (λ z. absurd (true_false (sym e ∙ how_many_zero (λ (j : ℕ). eqb (index_at transpose cu sample j) cu.palette_size) (cu.size * cu.size) (eqb-true _ 0 z) i h)))
      (λ z. rw z)

  index_below : (i : ℕ) → index_at transpose cu sample i ≤ cu.palette_size
  unfolding index_at
  index_below i = index_le cu.tolerance (palette_of cu) cu.palette_size (scan_sample transpose cu.size sample i) t.some

  cell : (i : ℕ) → i < cu.size * cu.size → cell_holds (assigned c transpose cu sample) i ≡ true
  unfolding assigned mapped cell_holds max_index cell_levels levels_at
  cell i h =
      either (eqb (index_at transpose cu sample i) cu.palette_size)
      (λ e.
      let k : index_at transpose cu sample i ≡ cu.palette_size = eqb-true _ _ e in
      let n : leb (index_at transpose cu sample i) (cu.palette_size + 1 - 1) ≡ true = le-leb (index_at transpose cu sample i) (cu.palette_size + 1 - 1) (omega arith) in
      rw (index-at i h, levels-at i h, e, levels_in_lem c (assigned c transpose cu sample) (scan_sample transpose cu.size sample i) made-matched (small i h), flagged i h e, n))
      (λ e.
      let q : index_at transpose cu sample i ≡ cu.palette_size → ⊥ = eqb-false _ _ e in
      let n : leb (index_at transpose cu sample i) (cu.palette_size + bit (not (eqb (escapes transpose cu sample) 0)) - 1) ≡ true = le-leb (index_at transpose cu sample i) (cu.palette_size + bit (not (eqb (escapes transpose cu sample) 0)) - 1) (omega (arith, index_below i, t.some)) in
      rw (index-at i h, n, e))
    where
      made-matched : Matched c (assigned c transpose cu sample)
      made-matched = record { format = m.format; luma = m.luma; chroma = m.chroma; lossless = m.lossless }

  -- ---- the block

  pub made_holds : counts_hold cu ≡ true → cu.pred_size ≤ 128 → holds 64 (assigned c transpose cu sample) ≡ true
  unfolding assigned mapped holds block_size_in format_holds counts_hold entries_hold empty_holds
  made_holds n p =
      rw (
        t.size,
        t.format,
        t.few,
        le-leb cu.pred_size 128 p,
        t.tolerance,
        n,
        t.entries,
        at_up_to (cell_holds (assigned c transpose cu sample)) (cu.size * cu.size) cell,
        ne_eqb cu.palette_size 0 (λ z. omega (arith, t.some)),
      )

-- ---- what is accepted

pub accepted-holds : (luma cb cr : List ℕ) (c : PaletteConfig) (g : SourceBlock) (transpose : Bool) (cu : PaletteCu) → length cu.indices ≡ 1024 → length cu.escapes ≡ 1024
    → counts_hold cu ≡ true → cu.pred_size ≤ 128 → (assign_of luma cb cr c g transpose cu).refusal ≡ 0 → holds 64 (assign_of luma cb cr c g transpose cu).cu ≡ true
unfolding assign_of
accepted-holds luma cb cr c g transpose cu li le n p e =
    let a = accepted luma cb cr c g transpose cu e in
    let q : cu.size * cu.size ≤ 32 * 32 = mul-le-mul a.takes.size_high a.takes.size_high in
    rw e (made_holds c transpose cu (color_at luma cb cr c.chroma_idc g) a.takes a.matched a.small (omega arith) (omega arith) n p)
