-- How the answers of an analysis come about.
use Rattle.std.specs.Prelude.{◌&&◌, Bool, true, false, List, [], ◌∷◌, ◌≡◌, ℕ, ◌-◌, ◌*◌, ◌≤◌, leb, length, replicate}
use Rattle.std.proofs.Math.Path.{ap}
use Rattle.std.proofs.Common.{sym, ◌∙◌, arith}
use borrow.Author.Tests.{ne_eqb, leb-true, le-leb}
use Rattle.base.specs.Pick.{either}
use Rattle.base.specs.Refusals.{refused-early, refused-late}
use Rattle.base.specs.Tests.{both, refusal, ands-every}
use Rattle.h265.specs.Escape.{step_at}
use Rattle.quant.specs.QuantLaws.{tolerance_le}
use Rattle.model.specs.Blank.{blank_cu}
use Rattle.model.specs.Domain.{config_in, source_in, planes_in, predictor_in}
use Rattle.model.specs.declared.PaletteConfig.{PaletteConfig}
use Rattle.model.specs.declared.PaletteCu.{PaletteCu}
use Rattle.model.specs.declared.PalettePredictor.{PalettePredictor}
use Rattle.model.specs.declared.SourceBlock.{SourceBlock}
use Rattle.source.specs.Source.{samples_in, source_tests, cells_in}
use Rattle.source.specs.Laws.{source_numbers, fetched}
use Rattle.colors.specs.Table.{none_above}
use Rattle.colors.specs.declared.ColorIndex.{ColorIndex}
use Rattle.census.specs.Census.{met, counts, too_many}
use Rattle.choose.specs.Choose.{painting_of}
use Rattle.tally.specs.Tally.{index_of}
use Rattle.paint.specs.Laws.{palette_trues}
use Rattle.analyse.specs.Analyse.{Analysed, analysed, analysis_of}
use Rattle.blocks.specs.Blocks.{entries_of}
use Rattle.blocks.specs.Laws.{block_with, block_painted}
use Rattle.analysis.specs.Analyze.{Analyzed, cells_of, tolerance_at, lent_in, few_colors, palette_refusal, with_refusal, decided, answer_of, analyze_of, analyze_with_of}

-- ---- the answers, by number

abbrev pub refused_with : ℕ → ColorIndex → Analyzed
refused_with r k = record { refusal = r; cu = blank_cu; counter = k }

module _ (xs : List ℕ) (c : PaletteConfig) (size : ℕ) (p : PalettePredictor) (k : ColorIndex) (tol : ℕ) where
  -- 1 to 7
  early : (r : ℕ) → 1 ≤ r → r ≤ 7 → refused_with r k ≡ answer_of r xs c size p k tol
  unfolding answer_of decided
  early r h l = rw (ne_eqb r 0 (λ e. omega arith), ne_eqb r 13 (λ e. omega arith))

  abbrev last : List (Bool × ℕ)
  last = (few_colors xs (size * size), 13) ∷ []

  -- 5
  pub refused-lent : lent_in c p k ≡ false → refused_with 5 k ≡ answer_of (refusal ((lent_in c p k, 5) ∷ (leb tol 16, 7) ∷ last)) xs c size p k tol
  refused-lent e = rw e (early 5 (omega arith) (omega arith))

  -- 7
  pub refused_tolerance : lent_in c p k ≡ true → leb tol 16 ≡ false → refused_with 7 k ≡ answer_of (refusal ((lent_in c p k, 5) ∷ (leb tol 16, 7) ∷ last)) xs c size p k tol
  refused_tolerance e t = rw (e, t) (early 7 (omega arith) (omega arith))

  -- 13 or none
  pub lent-taken : lent_in c p k ≡ true → leb tol 16 ≡ true → answer_of (refusal last) xs c size p k tol ≡ answer_of (refusal ((lent_in c p k, 5) ∷ (leb tol 16, 7) ∷ last)) xs c size p k tol
  lent-taken e t = rw (e, t)

  -- 5 or 7, by the number answered
  pub lent_refused : (r : ℕ) → r ≡ refusal ((lent_in c p k, 5) ∷ (leb tol 16, 7) ∷ []) → 1 ≤ r → refused_with r k ≡ answer_of (refusal ((lent_in c p k, 5) ∷ (leb tol 16, 7) ∷ last)) xs c size p k tol
  lent_refused r e o =
      either (lent_in c p k)
      (λ t. either (leb tol 16) (λ u. let z : r ≡ 0 = e ∙ rw (t, u) in absurd (omega arith)) (λ u. let z : r ≡ 7 = e ∙ rw (t, u) in ap (λ (n : ℕ). refused_with n k) z ∙ refused_tolerance t u))
      (λ f. let z : r ≡ 5 = e ∙ rw f in ap (λ (n : ℕ). refused_with n k) z ∙ refused-lent f)

  -- neither
  pub lent_passed : 0 ≡ refusal ((lent_in c p k, 5) ∷ (leb tol 16, 7) ∷ []) → (lent_in c p k ≡ true) × (leb tol 16 ≡ true)
  lent_passed e =
      either (lent_in c p k)
      (λ t. either (leb tol 16) (λ u. (t, u)) (λ u. let z : 0 ≡ 7 = e ∙ rw (t, u) in absurd (omega arith)))
      (λ f. let z : 0 ≡ 5 = e ∙ rw f in absurd (omega arith))

  module _ (n shift : ℕ) (es : List ℕ) (a : Analysed) (is : a ≡ analysis_of k xs n shift tol 64 es) (area : n ≡ size * size) (over : shift ≡ c.bd_luma - 8) (are : es ≡ entries_of p) where
    same : a ≡ analysis_of k xs (size * size) (c.bd_luma - 8) tol 64 (entries_of p)
    same = is ∙ rw (area, over, are)

    after : a.index ≡ index_of k xs (size * size) (c.bd_luma - 8)
    unfolding analysis_of
    after = ap (λ (z : Analysed). z.index) same

    pub refused-many : (a.answer ≡ 0 → ⊥) → refused_with 13 a.index ≡ answer_of (refusal last) xs c size p k tol
    unfolding answer_of decided few_colors analysis_of
    refused-many h =
        either (too_many (length (met xs (size * size))) (size * size))
        (λ e. rw (e, after))
        (λ e. absurd (h (ap (λ (z : Analysed). z.answer) same ∙ rw e)))

    thirteen : (a.answer ≡ 0 → ⊥) → a.answer ≡ 13
    unfolding analysis_of
    thirteen h =
        either (too_many (length (met xs (size * size))) (size * size))
        (λ e. ap (λ (z : Analysed). z.answer) same ∙ rw e)
        (λ e. absurd (h (ap (λ (z : Analysed). z.answer) same ∙ rw e)))

    -- the same with the number answered
    pub refused_number : (a.answer ≡ 0 → ⊥) → refused_with a.answer a.index ≡ answer_of (refusal last) xs c size p k tol
    refused_number h = ap (λ (r : ℕ). refused_with r a.index) (thirteen h) ∙ refused-many h

    painted : a.answer ≡ 0 → (too_many (length (met xs (size * size))) (size * size) ≡ false) × (a.painting ≡ painting_of (analysed tol 64 (entries_of p) xs (size * size)))
    unfolding analysis_of
    painted h =
        either (too_many (length (met xs (size * size))) (size * size))
        (λ e. let z : a.answer ≡ 13 = ap (λ (z : Analysed). z.answer) same ∙ rw e in absurd (omega arith))
        (λ e. (e, ap (λ (z : Analysed). z.painting) same ∙ rw e))

    pub few-reused : a.answer ≡ 0 → a.painting.reused ≤ a.painting.size
    unfolding painting_of analysed
    few-reused h = rw (painted h).1 (palette_trues tol 64 (entries_of p) (met xs (size * size)) (counts xs (size * size)))

    pub block_made : a.answer ≡ 0 → (cu : PaletteCu) → cu ≡ block_with c size p.size tol a.painting → ◌≡◌ {A = Analyzed} (record { refusal = 0; cu = cu; counter = a.index }) (answer_of (refusal last) xs c size p k tol)
    unfolding answer_of decided few_colors
    block_made h cu e =
        let w = painted h in
        rw (w.0, e, w.1, after, block_painted c size p.size tol (analysed tol 64 (entries_of p) xs (size * size)))

-- ---- what 5 leaves

pub lent_bounds : (c : PaletteConfig) (p : PalettePredictor) (k : ColorIndex) → lent_in c p k ≡ true → (p.size ≤ 128) × (none_above k.generation k.stamp ≡ true)
unfolding lent_in predictor_in
lent_bounds c p k e =
    let a = both (predictor_in c.chroma_idc c.bd_luma c.bd_chroma p) _ e in
    (leb-true p.size 128 (both (leb p.size 128) _ a.0).0, (both (none_above k.generation k.stamp) true a.1).0)

-- the two tests of 5 joined
pub lent_by : (c : PaletteConfig) (p : PalettePredictor) (k : ColorIndex) (a b : Bool) → a ≡ predictor_in c.chroma_idc c.bd_luma c.bd_chroma p → b ≡ none_above k.generation k.stamp → a && b ≡ lent_in c p k
unfolding lent_in
lent_by c p k a b e h = ands-every a (b ∷ []) ∙ rw (e, h)

-- ---- the entry points

four : (a b d e : Bool) → refusal ((a, 1) ∷ (b, 2) ∷ (d, 3) ∷ (e, 4) ∷ []) ≤ 4
four false b d e = omega arith
four true false d e = omega arith
four true true false e = omega arith
four true true true false = omega arith
four true true true true = omega arith

module _ (luma cb cr : List ℕ) (c : PaletteConfig) (g : SourceBlock) (p : PalettePredictor) (k : ColorIndex) where
  abbrev source : List (Bool × ℕ)
  source = source_tests luma cb cr c g

  abbrev xs : List ℕ
  xs = cells_of luma cb cr c g

  abbrev many : List (Bool × ℕ)
  many = (few_colors xs (g.size * g.size), 13) ∷ []

  abbrev rest : ℕ → List (Bool × ℕ)
  rest tol = (lent_in c p k, 5) ∷ (leb tol 16, 7) ∷ many

  at_most_four : (r : ℕ) → r ≡ refusal source → r ≤ 4
  at_most_four r e = rw e (four (config_in c) (source_in c.chroma_idc g) (planes_in c.chroma_idc g (length luma) (length cb) (length cr)) (samples_in luma cb cr c g))

  -- the luma QP's tolerance is never refused: as if it were lent
  pub palette_with : analyze_of luma cb cr c g p k ≡ analyze_with_of luma cb cr c g p k (tolerance_at c)
  unfolding analyze_of palette_refusal analyze_with_of with_refusal
  palette_with = rw (le-leb (tolerance_at c) 16 (tolerance_le c.lossless (step_at c.qp_y)))

  -- 1 to 4
  pub with_source : (tol r : ℕ) → r ≡ refusal source → 1 ≤ r → refused_with r k ≡ analyze_with_of luma cb cr c g p k tol
  unfolding analyze_with_of with_refusal
  with_source tol r e o =
      rw (refused-early source (rest tol) r (source_numbers luma cb cr c g) (sym e) o) (early xs c g.size p k tol r o (omega (arith, at_most_four r e)))

  -- the rest, from the colours fetched
  module _ (ys : List ℕ) (e : refusal source ≡ 0) (is : ys ≡ cells_in luma cb cr c g (replicate 1024 0)) where
    fetched-cells : ys ≡ xs
    fetched-cells = is ∙ (fetched luma cb cr c g e).cells (replicate 1024 0)

    pub with_cells_lem : (tol : ℕ) → answer_of (refusal ((lent_in c p k, 5) ∷ (leb tol 16, 7) ∷ (few_colors ys (g.size * g.size), 13) ∷ [])) ys c g.size p k tol ≡ analyze_with_of luma cb cr c g p k tol
    unfolding analyze_with_of with_refusal
    with_cells_lem tol = rw (fetched-cells, refused-late source (rest tol) (source_numbers luma cb cr c g) e)
