-- The laws of an analysis: counting and choosing make it, and the samples alone decide its palette.
use Rattle.std.specs.Prelude.{Ok, Err, List, ◌≡◌, ℕ, ◌≤◌, ◌<◌, eqb, length, get_or}
use Rattle.std.proofs.Math.Bool.{true, false}
use Rattle.std.proofs.Math.Path.{refl, sym, ap}
use Rattle.std.proofs.Common.{◌∙◌, length-take-le, get_or-take}
use native.Mathlib.Omega.{arith}
use Rattle.std.proofs.Math.ListN.{take}
use Rattle.base.specs.Pick.{pick, either}
use Rattle.base.specs.Lists.{padded-take}
use Rattle.colors.specs.Table.{tab}
use Rattle.colors.specs.declared.ColorIndex.{ColorIndex}
use Rattle.census.specs.declared.Census.{Census}
use Rattle.census.specs.Census.{itself, met, counts, too_many, census}
use Rattle.census.specs.Laws.{met_ext, counts_ext, counts-length}
use Rattle.choose.specs.declared.Painting.{Painting}
use Rattle.choose.specs.Choose.{painting_of, nothing}
use Rattle.refusal.specs.declared.Refusal.{Refusal}
use Rattle.tally.specs.Tally.{as_tally, Tally, Counted, pre_check, index_at, moved_to, moved, index_of, answer_to, colors_to, counted_of, tally_of}
use Rattle.tally.specs.Laws.{counted-small, kept-many, index_ext}
use Rattle.refusal.specs.Laws.{number_other}
use Rattle.paint.specs.Paint.{palette_of}
use Rattle.analyse.specs.Analyse.{as_analysed, Analysed, Painted, analysed, painting_to, painted_of, analysis_of}

-- what is painted from the colours counted
module _ (xs : List ℕ) (n tol limit : ℕ) (es : List ℕ) (a : ℕ) (f : Census) (u : a ≡ answer_to xs n) (v : f ≡ colors_to xs n) where
  few : f.distinct ≤ 128
  few = rw v (counted-small xs n)

  painted : (p : Painting) → p ≡ painting_of (pick (eqb a 0) (palette_of tol limit es (take f.distinct f.met) (take f.distinct f.counts)) nothing) → p ≡ painting_to tol limit es xs n
  unfolding analysed
  painted p q =
      q
      ∙ either (too_many (length (met xs n)) n)
      (λ e. rw (u, e) refl)
      (λ e.
      let w : f ≡ census (length (met xs n)) (met xs n) (counts xs n) = v ∙ rw e refl in
      let b : take f.distinct f.met ≡ met xs n = rw w (padded-take 128 0 (met xs n) (length (met xs n)) refl) in
      let d : take f.distinct f.counts ≡ counts xs n = rw w (padded-take 128 0 (counts xs n) (length (met xs n)) (counts-length xs n)) in
      rw (u, e, b, d) refl)

module _ (xs : List ℕ) (n shift tol limit : ℕ) (es : List ℕ) (g : ℕ) (d : Counted) (v : d ≡ counted_of xs n shift g) where
  pub few_on : d.colors.distinct ≤ 128
  unfolding counted_of
  few_on = few xs n tol limit es d.answer d.colors (ap (λ (z : Counted). z.answer) v) (ap (λ (z : Counted). z.colors) v)

  pub painted-on : (p : Painting) → p ≡ painting_of (pick (eqb d.answer 0) (palette_of tol limit es (take d.colors.distinct d.colors.met) (take d.colors.distinct d.colors.counts)) nothing)
      → ◌≡◌ {A = Painted} (record { answer = d.answer; kept = d.kept; generation = d.generation; painting = p }) (painted_of xs n shift tol limit es g)
  unfolding counted_of painted_of
  painted-on p q =
      let w = painted xs n tol limit es d.answer d.colors (ap (λ (z : Counted). z.answer) v) (ap (λ (z : Counted). z.colors) v) p q in
      (λ i. record { answer = (v i).answer; kept = (v i).kept; generation = (v i).generation; painting = w i })

module _ (c : ColorIndex) (xs : List ℕ) (n shift tol limit : ℕ) (es : List ℕ) (t : Tally) (v : t ≡ tally_of c xs n shift) where
  pub few_in : t.colors.distinct ≤ 128
  unfolding tally_of
  few_in = few xs n tol limit es t.answer t.colors (ap (λ (z : Tally). z.answer) v) (ap (λ (z : Tally). z.colors) v)

  pub painted_in : (p : Painting) → p ≡ painting_of (pick (eqb t.answer 0) (palette_of tol limit es (take t.colors.distinct t.colors.met) (take t.colors.distinct t.colors.counts)) nothing)
      → ◌≡◌ {A = Analysed} (record { answer = t.answer; painting = p; index = t.index }) (analysis_of c xs n shift tol limit es)
  unfolding tally_of analysis_of
  painted_in p q =
      let w = painted xs n tol limit es t.answer t.colors (ap (λ (z : Tally). z.answer) v) (ap (λ (z : Tally). z.colors) v) p q in
      (λ i. record { answer = (v i).answer; painting = w i; index = (v i).index })

-- from what the count answered: the palette of its colours, or none
module _ (c after : ColorIndex) (xs : List ℕ) (n shift tol limit : ℕ) (es : List ℕ) where
  pub found-few : (found : Census) → as_tally (Ok found) after ≡ tally_of c xs n shift → found.distinct ≤ 128
  found-few found v = few_in c xs n shift tol limit es (as_tally (Ok found) after) v

  pub found-painted : (found : Census) → as_tally (Ok found) after ≡ tally_of c xs n shift → (p : Painting) → p ≡ painting_of (palette_of tol limit es (take found.distinct found.met) (take found.distinct found.counts))
      → as_analysed (Ok p) after ≡ analysis_of c xs n shift tol limit es
  found-painted found v p q = painted_in c xs n shift tol limit es (as_tally (Ok found) after) v p q

  pub none-painted : (r : Refusal) → as_tally (Err r) after ≡ tally_of c xs n shift → as_analysed (Err r) after ≡ analysis_of c xs n shift tol limit es
  none-painted r v = painted_in c xs n shift tol limit es (as_tally (Err r) after) v (painting_of nothing) (rw (number_other r) refl)

-- with the counter kept, or moved on
module _ (k : ColorIndex) (xs : List ℕ) (n shift tol limit : ℕ) (es : List ℕ) (d : Painted) (v : d ≡ painted_of xs n shift tol limit es k.generation) where
  pub painted-kept : d.kept ≡ true → ◌≡◌ {A = Analysed} (record { answer = d.answer; painting = d.painting; index = k }) (analysis_of k xs n shift tol limit es)
  unfolding painted_of analysis_of index_of
  painted-kept h =
      let e : pre_check xs n shift ≡ true = sym (ap (λ (z : Painted). z.kept) v) ∙ h in
      rw e (λ i. record { answer = (v i).answer; painting = (v i).painting; index = k })

  pub painted-moved : d.kept ≡ false → (ks fs ss : List ℕ) → tab ks fs ss ≡ moved_to k.keys k.entry k.stamp k.generation xs n
      → ◌≡◌ {A = Analysed} (record { answer = d.answer; painting = d.painting; index = record { keys = ks; entry = fs; stamp = ss; generation = d.generation } }) (analysis_of k xs n shift tol limit es)
  unfolding painted_of analysis_of index_of moved
  painted-moved h ks fs ss t =
      let e : pre_check xs n shift ≡ false = sym (ap (λ (z : Painted). z.kept) v) ∙ h in
      rw e (λ i. record { answer = (v i).answer; painting = (v i).painting; index = index_at (t i) (v i).generation })

  -- it is kept on a refusal alone
  pub kept-refused : d.kept ≡ true → d.answer ≡ 0 → ⊥
  unfolding painted_of
  kept-refused h z =
      let e : pre_check xs n shift ≡ true = sym (ap (λ (z : Painted). z.kept) v) ∙ h in
      let q : d.answer ≡ 13 = ap (λ (z : Painted). z.answer) v ∙ rw (kept-many xs n shift e) in
      omega arith

-- blocks that agree on their samples have one palette
module _ (xs ys : List ℕ) (n : ℕ) (h : (i : ℕ) → i < n → get_or xs i 0 ≡ get_or ys i 0) where
  pub analysed_ext : (tol limit : ℕ) (es : List ℕ) → analysed tol limit es xs n ≡ analysed tol limit es ys n
  unfolding analysed
  analysed_ext tol limit es = (λ j. palette_of tol limit es (met_ext itself xs ys n h j) (counts_ext xs ys n h j))

  -- whatever the counters and the depths
  pub painting_ext : (c d : ColorIndex) (shift shift' tol limit : ℕ) (es : List ℕ) → (analysis_of c xs n shift tol limit es).painting ≡ (analysis_of d ys n shift' tol limit es).painting
  unfolding analysis_of
  painting_ext c d shift shift' tol limit es = (λ j. painting_of (pick (too_many (length (met_ext itself xs ys n h j)) n) nothing (analysed_ext tol limit es j)))

  pub answer_ext : (c d : ColorIndex) (shift shift' tol limit : ℕ) (es : List ℕ) → (analysis_of c xs n shift tol limit es).answer ≡ (analysis_of d ys n shift' tol limit es).answer
  unfolding analysis_of
  answer_ext c d shift shift' tol limit es = (λ j. pick (too_many (length (met_ext itself xs ys n h j)) n) 13 0)

-- the same of the analysis as a whole, by one counter
pub analysis_ext : (c : ColorIndex) (xs ys : List ℕ) (n shift tol limit : ℕ) (es : List ℕ) → ((i : ℕ) → i < n → get_or xs i 0 ≡ get_or ys i 0) → analysis_of c xs n shift tol limit es ≡ analysis_of c ys n shift tol limit es
unfolding analysis_of
analysis_ext c xs ys n shift tol limit es h = (λ j. record {
  answer = answer_ext xs ys n h c c shift shift tol limit es j;
  painting = painting_ext xs ys n h c c shift shift tol limit es j;
  index = index_ext c xs ys n shift h j;
})

-- a list's first n samples are the block's
pub analysis_front : (c : ColorIndex) (xs : List ℕ) (n shift tol limit : ℕ) (es : List ℕ) → n ≤ length xs → analysis_of c (take n xs) (length (take n xs)) shift tol limit es ≡ analysis_of c xs n shift tol limit es
analysis_front c xs n shift tol limit es h =
    ap (λ (m : ℕ). analysis_of c (take n xs) m shift tol limit es) (length-take-le n xs h) ∙ analysis_ext c (take n xs) xs n shift tol limit es (λ i l. get_or-take n xs i 0 l)
