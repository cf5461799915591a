-- What an analysis gives: the samples alone decide palette and flags, assignment takes the block made, and the counter serves again.
use Rattle.std.specs.Prelude.{Bool, not, List, [], ◌∷◌, map, ◌≡◌, ℕ, ◌+◌, ◌-◌, ◌*◌, ◌/◌, ◌%◌, ◌^◌, ◌≤◌, ◌<◌, eqb, leb, replicate}
use Rattle.std.proofs.Math.Bool.{true, false}
use Rattle.std.proofs.lemmas.Simd.{map-map}
use Rattle.std.proofs.Common.{map-id, ◌∙◌, arith, get_or-take, length-take-le}
use Rattle.std.proofs.Math.Path.{refl, ap, sym}
use Rattle.std.proofs.Math.Nat.{mul-le-mul}
use borrow.Author.Tests.{leb-true, le-leb, eq-eqb, eqb-true}
use Rattle.std.proofs.Math.ListN.{length, take, get_or, length-map, get_or-map}
use Rattle.std.proofs.lemmas.List.{length-replicate, take-append-le}
use Rattle.base.specs.Alls.{all_by, all-at, all_map}
use Rattle.base.specs.Cells.{laid_in}
use Rattle.base.specs.Codes.{All}
use Rattle.base.specs.Lists.{padded, padded-take, padded-read, take-map, map_ext}
use Rattle.base.specs.Pick.{pick, either, true_false}
use Rattle.base.specs.Refusals.{refused-late}
use Rattle.base.specs.Tests.{every, any, both, refusal, up_to-at, at_up_to}
use Rattle.h265.specs.Reuse.{trues, flagged}
use Rattle.h265.proofs.ReuseLaws.{flagged-map}
use Rattle.quant.specs.Quant.{y_of, u_of, v_of}
use Rattle.quant.specs.QuantLaws.{packed-parts}
use Rattle.model.specs.ConfigLaws.{format_most, depth-most, config_bounds}
use Rattle.model.specs.Domain.{format_in, depth_in, config_in, source_in, planes_in, most, most_chroma, color_in, predictor_in, no_color}
use Rattle.model.specs.DomainLaws.{source-bounds, source_size}
use Rattle.model.specs.Whole.{block_size_in, same, matches, matches_size, format_holds, counts_hold, entries_hold, assignable}
use Rattle.model.specs.declared.Color.{Color}
use Rattle.model.specs.declared.PaletteConfig.{PaletteConfig}
use Rattle.model.specs.declared.PaletteCu.{PaletteCu}
use Rattle.model.specs.declared.PalettePredictor.{PalettePredictor}
use Rattle.model.specs.declared.SourceBlock.{SourceBlock}
use Rattle.entries.specs.Entries.{packed_of}
use Rattle.samples.specs.Samples.{sample_at, chroma_at, color_at, cell_at}
use Rattle.source.specs.Source.{samples_in, source_tests}
use Rattle.source.specs.Laws.{source_numbers, Fetched, fetched}
use Rattle.colors.specs.Table.{none_above}
use Rattle.colors.specs.declared.ColorIndex.{ColorIndex}
use Rattle.census.specs.Census.{itself, met, counts, too_many}
use Rattle.census.specs.Laws.{met_some, met_all, met_ext}
use Rattle.choose.specs.Choose.{Chosen}
use Rattle.tally.specs.Laws.{index-holds}
use Rattle.paint.specs.Laws.{palette_small, palette_some, palette_flags, palette_trues, palette_starts, palette_all}
use Rattle.analyse.specs.Analyse.{analysed}
use Rattle.analyse.specs.Laws.{analysed_ext}
use Rattle.blocks.specs.Blocks.{color_of, entries_of, block_of}
use Rattle.blocks.specs.Laws.{color_packed}
use Rattle.analysis.specs.Analyze.{Analyzed, cells_of, tolerance_at, lent_in, few_colors, with_refusal, decided, answer_of, analyze_of, analyze_with_of}
use Rattle.analysis.specs.Laws.{palette_with}

-- ---- a call that is decided by its colours

seven : (a b d e f t w : Bool) → decided (refusal ((a, 1) ∷ (b, 2) ∷ (d, 3) ∷ (e, 4) ∷ (f, 5) ∷ (t, 7) ∷ (w, 13) ∷ [])) ≡ true → (refusal ((a, 1) ∷ (b, 2) ∷ (d, 3) ∷ (e, 4) ∷ []) ≡ 0) × (f ≡ true) × (t ≡ true)
unfolding decided
seven false b d e f t w h = absurd (true_false (sym h))
seven true false d e f t w h = absurd (true_false (sym h))
seven true true false e f t w h = absurd (true_false (sym h))
seven true true true false f t w h = absurd (true_false (sym h))
seven true true true true false t w h = absurd (true_false (sym h))
seven true true true true true false w h = absurd (true_false (sym h))
seven true true true true true true w h = (refl, refl, refl)

pub record Decided (luma cb cr : List ℕ) (c : PaletteConfig) (g : SourceBlock) (p : PalettePredictor) (k : ColorIndex) (tol : ℕ) : Type 0 where
  pub source : refusal (source_tests luma cb cr c g) ≡ 0
  pub lent : lent_in c p k ≡ true
  pub tolerance : leb tol 16 ≡ true
  pub number : with_refusal luma cb cr c g p k tol ≡ refusal ((few_colors (cells_of luma cb cr c g) (g.size * g.size), 13) ∷ [])

by_colours : (luma cb cr : List ℕ) (c : PaletteConfig) (g : SourceBlock) (p : PalettePredictor) (k : ColorIndex) (tol : ℕ) → decided (with_refusal luma cb cr c g p k tol) ≡ true → Decided luma cb cr c g p k tol
unfolding with_refusal
by_colours luma cb cr c g p k tol h =
    let w = few_colors (cells_of luma cb cr c g) (g.size * g.size) in
    let s = seven (config_in c) (source_in c.chroma_idc g) (planes_in c.chroma_idc g (length luma) (length cb) (length cr)) (samples_in luma cb cr c g) (lent_in c p k) (leb tol 16) w h in
    record {
      source = s.0;
      lent = s.1;
      tolerance = s.2;
      number = refused-late (source_tests luma cb cr c g) ((lent_in c p k, 5) ∷ (leb tol 16, 7) ∷ (w, 13) ∷ []) (source_numbers luma cb cr c g) s.0 ∙ rw (s.1, s.2);
    }

-- ---- the samples alone decide palette and flags

-- two calls agree on block samples, size and predictor
pub record Agree (luma cb cr luma' cb' cr' : List ℕ) (c c' : PaletteConfig) (g g' : SourceBlock) (p p' : PalettePredictor) : Type 0 where
  pub size : g.size ≡ g'.size
  pub samples : (j : ℕ) → j < g.size * g.size → cell_at luma cb cr c.chroma_idc g j ≡ cell_at luma' cb' cr' c'.chroma_idc g' j
  pub predictors : p.size ≡ p'.size
  pub entries : take p.size p.entries ≡ take p'.size p'.entries

pub record SamePalette (a b : Analyzed) : Type 0 where
  pub refusal : a.refusal ≡ b.refusal
  pub palette : a.cu.palette ≡ b.cu.palette
  pub entries : a.cu.palette_size ≡ b.cu.palette_size
  pub flags : a.cu.reused ≡ b.cu.reused
  pub predictors : a.cu.pred_size ≡ b.cu.pred_size
  pub signaled : a.cu.num_signaled ≡ b.cu.num_signaled

cell-of : (luma cb cr : List ℕ) (c : PaletteConfig) (g : SourceBlock) → g.size ≤ 32 → (j : ℕ) → j < g.size * g.size → get_or (cells_of luma cb cr c g) j 0 ≡ cell_at luma cb cr c.chroma_idc g j
cell-of luma cb cr c g s j h =
    let q : g.size * g.size ≤ 32 * 32 = mul-le-mul s s in
    laid_in (cell_at luma cb cr c.chroma_idc g) (replicate 1024 0) 0 (g.size * g.size) j 0 (omega arith) (omega (arith, length-replicate {A = ℕ} 1024 0)) (omega arith)

-- answers from colours that agree
answers-same : (xs ys : List ℕ) (c c' : PaletteConfig) (size size' : ℕ) (p p' : PalettePredictor) (k k' : ColorIndex) (tol r r' : ℕ) → size ≡ size' → ((j : ℕ) → j < size * size → get_or xs j 0 ≡ get_or ys j 0)
    → p.size ≡ p'.size → take p.size p.entries ≡ take p'.size p'.entries → r ≡ refusal ((few_colors xs (size * size), 13) ∷ []) → r' ≡ refusal ((few_colors ys (size' * size'), 13) ∷ [])
    → SamePalette (answer_of r xs c size p k tol) (answer_of r' ys c' size' p' k' tol)
unfolding answer_of few_colors block_of
answers-same xs ys c c' size size' p p' k k' tol r r' s h n e q q' =
    let n² = size * size in
    let m : met xs n² ≡ met ys n² = met_ext itself xs ys n² h in
    let z : r ≡ r' = q ∙ ap (λ (l : List ℕ). refusal ((not (too_many (length l) n²), 13) ∷ [])) m ∙ ap (λ (v : ℕ). refusal ((few_colors ys (v * v), 13) ∷ [])) s ∙ sym q' in
    let w : analysed tol 64 (entries_of p) xs n² ≡ analysed tol 64 (entries_of p') ys (size' * size') =
    ap (λ (l : List Color). analysed tol 64 (map packed_of l) xs n²) e ∙ analysed_ext xs ys n² h tol 64 (entries_of p') ∙ ap (λ (v : ℕ). analysed tol 64 (entries_of p') ys (v * v)) s
    in
    rw (z, w, n)
    (either (eqb r' 0)
    (λ t. rw t (record { refusal = refl; palette = refl; entries = refl; flags = refl; predictors = refl; signaled = refl }))
    (λ t. rw t (record { refusal = refl; palette = refl; entries = refl; flags = refl; predictors = refl; signaled = refl })))

module _ (luma cb cr luma' cb' cr' : List ℕ) (c c' : PaletteConfig) (g g' : SourceBlock) (p p' : PalettePredictor) (k k' : ColorIndex) (agree : Agree luma cb cr luma' cb' cr' c c' g g' p p') where
  -- two calls that 1 to 7 do not refuse and that agree on block samples, size, predictor and tolerance give the same palette and flags
  pub same_with : (tol : ℕ) → decided (analyze_with_of luma cb cr c g p k tol).refusal ≡ true → decided (analyze_with_of luma' cb' cr' c' g' p' k' tol).refusal ≡ true
      → SamePalette (analyze_with_of luma cb cr c g p k tol) (analyze_with_of luma' cb' cr' c' g' p' k' tol)
  unfolding analyze_with_of answer_of
  same_with tol a b =
      let d = by_colours luma cb cr c g p k tol a in
      let d' = by_colours luma' cb' cr' c' g' p' k' tol b in
      let s = source-bounds c.chroma_idc g (fetched luma cb cr c g d.source).readable.source in
      let s' = source-bounds c'.chroma_idc g' (fetched luma' cb' cr' c' g' d'.source).readable.source in
      let h : (j : ℕ) → j < g.size * g.size → get_or (cells_of luma cb cr c g) j 0 ≡ get_or (cells_of luma' cb' cr' c' g') j 0 =
      λ j l.
      let m : g.size * g.size ≡ g'.size * g'.size = ap (λ (v : ℕ). v * v) agree.size in
      cell-of luma cb cr c g s.small j l ∙ agree.samples j l ∙ sym (cell-of luma' cb' cr' c' g' s'.small j (omega arith))
      in
      answers-same (cells_of luma cb cr c g) (cells_of luma' cb' cr' c' g') c c' g.size g'.size p p' k k' tol (with_refusal luma cb cr c g p k tol) (with_refusal luma' cb' cr' c' g' p' k' tol) agree.size h agree.predictors agree.entries d.number d'.number

  -- of the luma QPs' tolerance
  pub same_palette : tolerance_at c ≡ tolerance_at c' → decided (analyze_of luma cb cr c g p k).refusal ≡ true → decided (analyze_of luma' cb' cr' c' g' p' k').refusal ≡ true
      → SamePalette (analyze_of luma cb cr c g p k) (analyze_of luma' cb' cr' c' g' p' k')
  same_palette t a b =
      let w = palette_with luma cb cr c g p k ∙ ap (analyze_with_of luma cb cr c g p k) t in
      let w' = palette_with luma' cb' cr' c' g' p' k' in
      rw (w, w') (same_with (tolerance_at c') (rw w at a) (rw w' at b))

-- ---- every entry fits its depths

-- the samples of a plane are of 16 bits
abbrev pub Plane : List ℕ → Type 0
Plane samples = (i : ℕ) → get_or samples i 0 < 2 ^ 16

abbrev Fit : PaletteConfig → ℕ → Type 0
Fit c x = color_in c.chroma_idc c.bd_luma c.bd_chroma (color_of x) ≡ true

entry-back : (format luma chroma : ℕ) (e : Color) → depth_in luma ≡ true → depth_in chroma ≡ true → color_in format luma chroma e ≡ true → color_of (packed_of e) ≡ e
unfolding color_in
entry-back format luma chroma e dl dc h =
    let y = both (leb e.y (most luma)) _ h in
    let u = both (leb e.cb (most_chroma format chroma)) _ y.1 in
    let v = both (leb e.cr (most_chroma format chroma)) true u.1 in
    let a = depth-most luma dl in
    let b = small (eqb format 0) (most chroma) (depth-most chroma dc) in
    color_packed e (omega (arith, leb-true e.y (most luma) y.0)) (omega (arith, leb-true e.cb (most_chroma format chroma) u.0)) (omega (arith, leb-true e.cr (most_chroma format chroma) v.0))
  where
    small : (t : Bool) (m : ℕ) → m ≤ 4095 → pick t 0 m ≤ 4095
    small true m h = omega arith
    small false m h = h

sample-small : (plane : List ℕ) (w h x y : ℕ) → Plane plane → sample_at plane w h x y < 2 ^ 16
unfolding sample_at
sample-small plane w h x y s = go (any (eqb w 0 ∷ eqb h 0 ∷ [])) _ (s _)
  where
    go : (t : Bool) (v : ℕ) → v < 2 ^ 16 → pick t 0 v < 2 ^ 16
    go true v l = omega arith
    go false v l = l

-- in format 0 a colour is its luma
grey : (luma cb cr : List ℕ) (format : ℕ) (g : SourceBlock) → Plane luma → format ≡ 0 → (j : ℕ) → (u_of (cell_at luma cb cr format g j) ≡ 0) × (v_of (cell_at luma cb cr format g j) ≡ 0)
unfolding cell_at color_at chroma_at
grey luma cb cr format g s z j =
    let q = packed-parts (sample_at luma g.yw g.yh (g.x0 + j % g.size) (g.y0 + j / g.size)) 0 0 (sample-small luma g.yw g.yh (g.x0 + j % g.size) (g.y0 + j / g.size) s) (omega arith) (omega arith) in
    rw z (q.1, q.2)

module _ (luma cb cr : List ℕ) (c : PaletteConfig) (g : SourceBlock) (s : Plane luma) (f : Fetched luma cb cr c g) where
  cell-fit : (j : ℕ) → j < g.size * g.size → Fit c (cell_at luma cb cr c.chroma_idc g j)
  unfolding color_in color_of
  cell-fit j h =
      let x = cell_at luma cb cr c.chroma_idc g j in
      either (eqb c.chroma_idc 0)
      (λ t.
      let z = grey luma cb cr c.chroma_idc g s (eqb-true _ _ t) j in
      rw (t, (both (leb (y_of x) (most c.bd_luma)) _ (f.fit j h)).0, z.0, z.1))
      (λ t. rw t (f.fit j h))

module _ (c : PaletteConfig) (p : PalettePredictor) (dl : depth_in c.bd_luma ≡ true) (dc : depth_in c.bd_chroma ≡ true) (h : predictor_in c.chroma_idc c.bd_luma c.bd_chroma p ≡ true) where
  entry_in : (i : ℕ) → i < p.size → color_in c.chroma_idc c.bd_luma c.bd_chroma (get_or p.entries i no_color) ≡ true
  unfolding predictor_in
  entry_in = up_to-at _ p.size (both _ true (both (leb p.size 128) _ h).1).0

  module _ (full : length p.entries ≡ 128) (few : p.size ≤ 128) where
    size_is : length (take p.size p.entries) ≡ p.size
    size_is = length-take-le p.size p.entries (omega arith)

    taken_in : (i : ℕ) → i < length (take p.size p.entries) → color_in c.chroma_idc c.bd_luma c.bd_chroma (get_or (take p.size p.entries) i no_color) ≡ true
    taken_in i l = let m : i < p.size = omega (arith, size_is) in rw (get_or-take p.size p.entries i no_color m) (entry_in i m)

    taken_back : (i : ℕ) → i < length (take p.size p.entries) → color_of (packed_of (get_or (take p.size p.entries) i no_color)) ≡ get_or (take p.size p.entries) i no_color
    taken_back i l = entry-back c.chroma_idc c.bd_luma c.bd_chroma (get_or (take p.size p.entries) i no_color) dl dc (taken_in i l)

    entries_fit : All (Fit c) (entries_of p)
    entries_fit =
        all_map (Fit c) packed_of (take p.size p.entries)
        (all_by (λ e. Fit c (packed_of e)) (take p.size p.entries) no_color (λ i l. rw (taken_back i l) (taken_in i l)))

    entries-back : map color_of (entries_of p) ≡ take p.size p.entries
    entries-back =
        map-map color_of packed_of (take p.size p.entries)
        ∙ map_ext (λ (e : Color). color_of (packed_of e)) (λ (e : Color). e) no_color (take p.size p.entries) taken_back
        ∙ map-id (take p.size p.entries)

-- ---- the block made

pub record Made (c : PaletteConfig) (g : SourceBlock) (p : PalettePredictor) (cu : PaletteCu) : Type 0 where
  pub takes : assignable 64 cu ≡ true
  pub counts : counts_hold cu ≡ true
  pub matched : matches c cu ≡ true
  pub size : matches_size g.size cu ≡ true
  pub some : 1 ≤ cu.palette_size
  pub few : cu.palette_size ≤ 64
  pub flags : cu.pred_size ≤ 128
  -- the palette starts with the entries that the flags mark in the predictor, in order
  pub starts : take (trues (take cu.pred_size cu.reused)) cu.palette ≡ flagged (take cu.pred_size cu.reused) (take p.size p.entries)

six : (a b d e f h : Bool) → a ≡ true → b ≡ true → d ≡ true → e ≡ true → f ≡ true → h ≡ true → every (a ∷ b ∷ d ∷ e ∷ f ∷ h ∷ []) ≡ true
six a b d e f h p q r s t u = rw (p, q, r, s, t, u)

same_self : (b : Bool) → same b b ≡ true
same_self true = refl
same_self false = refl

module _ (c : PaletteConfig) (g : SourceBlock) (p : PalettePredictor) (tol : ℕ) (w : Chosen) (readable : config_in c ≡ true) (source : source_in c.chroma_idc g ≡ true) (near : leb tol 16 ≡ true)
    (one : 1 ≤ length w.palette) (few : length w.palette ≤ 64) (flags : length w.flags ≡ p.size) (predictors : p.size ≤ 128) (reused : trues w.flags ≤ length w.palette) (fit : All (Fit c) w.palette)
    (starts : map color_of (take (trues w.flags) w.palette) ≡ flagged w.flags (take p.size p.entries)) where
  abbrev cu : PaletteCu
  cu = block_of c g.size p.size tol w

  entry-fits : (i : ℕ) → i < length w.palette → color_in c.chroma_idc c.bd_luma c.bd_chroma (get_or (padded 64 no_color (map color_of w.palette)) i no_color) ≡ true
  unfolding color_of
  entry-fits i h =
      rw (padded-read 64 no_color no_color (map color_of w.palette) i (rw (length-map w.palette color_of) h), get_or-map color_of w.palette i 0) (all-at (Fit c) w.palette 0 fit i h)

  block_takes : assignable 64 cu ≡ true
  unfolding assignable block_size_in format_holds entries_hold block_of config_in
  block_takes =
      let b = config_bounds c readable in
      let f : format_holds cu ≡ true = rw (format_most c.num_comps c.chroma_idc (both (format_in c.num_comps c.chroma_idc) _ readable).0, b.luma, b.chroma) in
      six (block_size_in cu) (format_holds cu) (leb 1 (length w.palette)) (leb (length w.palette) 64) (leb tol 16) (entries_hold cu) (source_size c.chroma_idc g source) f
      (le-leb 1 (length w.palette) one) (le-leb (length w.palette) 64 few) near (at_up_to _ (length w.palette) entry-fits)

  pub block_made : Made c g p cu
  unfolding block_of counts_hold matches matches_size
  block_made =
      let t : take p.size (padded 128 false w.flags) ≡ w.flags = padded-take 128 false w.flags p.size flags in
      record {
        takes = block_takes;
        counts = rw t (eq-eqb (trues w.flags + (length w.palette - trues w.flags)) (length w.palette) (omega arith));
        matched = rw (eq-eqb c.chroma_idc c.chroma_idc refl, eq-eqb c.bd_luma c.bd_luma refl, eq-eqb c.bd_chroma c.bd_chroma refl, same_self c.lossless);
        size = eq-eqb g.size g.size refl;
        some = one;
        few = few;
        flags = predictors;
        starts = rw t
            (take-append-le (trues w.flags) (map color_of w.palette) (replicate (64 - length (map color_of w.palette)) no_color) (rw (length-map w.palette color_of) reused)
            ∙ take-map color_of (trues w.flags) w.palette ∙ starts);
      }

unrefused : (r : ℕ) → r ≡ 0 → decided r ≡ true
unfolding decided
unrefused r e = rw e

predictor_few : (format luma chroma : ℕ) (p : PalettePredictor) → predictor_in format luma chroma p ≡ true → p.size ≤ 128
unfolding predictor_in
predictor_few format luma chroma p h = leb-true p.size 128 (both (leb p.size 128) _ h).0

-- a call that is not refused was lent a valid predictor
pub lent_with : (luma cb cr : List ℕ) (c : PaletteConfig) (g : SourceBlock) (p : PalettePredictor) (k : ColorIndex) (tol : ℕ) → (analyze_with_of luma cb cr c g p k tol).refusal ≡ 0 → predictor_in c.chroma_idc c.bd_luma c.bd_chroma p ≡ true
unfolding analyze_with_of answer_of lent_in
lent_with luma cb cr c g p k tol e = (both (predictor_in c.chroma_idc c.bd_luma c.bd_chroma p) _ (by_colours luma cb cr c g p k tol (unrefused _ e)).lent).0

-- the call's facts of its types: samples are of 16 bits, and a predictor has room for 128 entries
module _ (luma cb cr : List ℕ) (c : PaletteConfig) (g : SourceBlock) (p : PalettePredictor) (k : ColorIndex) (samples : Plane luma) (full : length p.entries ≡ 128) where
  -- assignment takes the block made at a tolerance lent
  pub made_with_lem : (tol : ℕ) → (analyze_with_of luma cb cr c g p k tol).refusal ≡ 0 → Made c g p (analyze_with_of luma cb cr c g p k tol).cu
  unfolding analyze_with_of answer_of analysed lent_in
  made_with_lem tol e =
      let d = by_colours luma cb cr c g p k tol (unrefused _ e) in
      let f = fetched luma cb cr c g d.source in
      let b = config_bounds c f.readable.config in
      let v = source-bounds c.chroma_idc g f.readable.source in
      let q = (both (predictor_in c.chroma_idc c.bd_luma c.bd_chroma p) _ d.lent).0 in
      let few = predictor_few c.chroma_idc c.bd_luma c.bd_chroma p q in
      let xs = cells_of luma cb cr c g in
      let n = g.size * g.size in
      let es = entries_of p in
      let ms = met xs n in
      let cs = counts xs n in
      let m : 1 * 1 ≤ g.size * g.size = mul-le-mul v.least v.least in
      let flags = palette_flags tol 64 es ms cs in
      let colours = met_all (Fit c) itself xs n (λ i l. rw (cell-of luma cb cr c g v.small i l) (cell-fit luma cb cr c g samples f i l)) in
      rw e
      (block_made c g p tol (analysed tol 64 es xs n) f.readable.config f.readable.source d.tolerance
      (palette_some tol 64 es ms cs (omega arith) (met_some itself xs n (omega arith)))
      (palette_small tol 64 es ms cs)
      (flags ∙ length-map (take p.size p.entries) packed_of ∙ size_is c p b.luma b.chroma q full few)
      few
      (palette_trues tol 64 es ms cs)
      (palette_all tol 64 es ms cs (Fit c) (entries_fit c p b.luma b.chroma q full few) colours)
      (ap (map color_of) (palette_starts tol 64 es ms cs) ∙ sym (flagged-map color_of _ es) ∙ rw (entries-back c p b.luma b.chroma q full few)))

  -- at the luma QP's tolerance
  pub made_palette : (analyze_of luma cb cr c g p k).refusal ≡ 0 → Made c g p (analyze_of luma cb cr c g p k).cu
  made_palette e = let w = palette_with luma cb cr c g p k in rw w (made_with_lem (tolerance_at c) (rw w at e))

-- ---- the counter serves again

module _ (luma cb cr : List ℕ) (c : PaletteConfig) (g : SourceBlock) (p : PalettePredictor) (k : ColorIndex) (small : k.generation < 2 ^ 32) where
  -- no stamp is above the generation after a call where none was before it
  pub counter_with : (tol : ℕ) → none_above k.generation k.stamp ≡ true → none_above (analyze_with_of luma cb cr c g p k tol).counter.generation (analyze_with_of luma cb cr c g p k tol).counter.stamp ≡ true
  unfolding analyze_with_of answer_of
  counter_with tol h =
      either (decided (with_refusal luma cb cr c g p k tol)) (λ t. rw t (index-holds k (cells_of luma cb cr c g) (g.size * g.size) (c.bd_luma - 8) small h)) (λ t. rw t h)

  pub counter_palette : none_above k.generation k.stamp ≡ true → none_above (analyze_of luma cb cr c g p k).counter.generation (analyze_of luma cb cr c g p k).counter.stamp ≡ true
  counter_palette h = rw (palette_with luma cb cr c g p k) (counter_with (tolerance_at c) h)
