-- Rows of samples are the cells of the block.
use Rattle.std.specs.Prelude.{◌≡◌, refl, Bool, true, false, not, List, [], ◌∷◌, ℕ, zero, suc, ◌+◌, ◌*◌, ◌-◌, ◌/◌, ◌%◌, ◌≤◌, ◌<◌, min, eqb, leb, get_or, set}
use Rattle.std.proofs.Common.{sym, ◌∙◌, arith, ne_eqb, leb-true}
use Rattle.std.proofs.Math.Arith.{digits_div, digits_mod}
use Rattle.std.proofs.lemmas.Bool.{eqb-false}
use Rattle.base.specs.Pick.{pick, true_false}
use Rattle.base.specs.Tests.{every, any, both, pick_test}
use Rattle.base.specs.Cells.{laid, laid_same, laid-row, laid-step}
use Rattle.quant.specs.Quant.{packed}
use Rattle.model.specs.Domain.{sub_w, sub_h, planes_in}
use Rattle.model.specs.declared.SourceBlock.{SourceBlock}
use Rattle.samples.specs.Samples.{sample_at, chroma_at, color_at, cell_at}

-- column x of the row of w samples that starts at base
abbrev pub in_row : List ℕ → ℕ → ℕ → ℕ → ℕ
in_row plane base w x = get_or plane (base + min x (w - 1)) 0

-- what a row loop lays at place j; its row starts at place a
abbrev pub grey_cell : List ℕ → ℕ → ℕ → ℕ → ℕ → ℕ → ℕ
grey_cell luma base w x0 a j = in_row luma base w (x0 + (j - a))

abbrev pub color_cell : List ℕ → List ℕ → List ℕ → ℕ → ℕ → ℕ → ℕ → ℕ → ℕ → ℕ → ℕ → ℕ
color_cell luma cb cr base w cbase cw x0 by a j =
    packed (in_row luma base w (x0 + (j - a))) (in_row cb cbase cw ((x0 + (j - a)) / by)) (in_row cr cbase cw ((x0 + (j - a)) / by))

pub grey-at : (luma : List ℕ) (base w x0 a k : ℕ) → in_row luma base w (x0 + k) ≡ grey_cell luma base w x0 a (a + k)
grey-at luma base w x0 a k = let e : a + k - a ≡ k = omega arith in rw e

pub color_at_lem : (luma cb cr : List ℕ) (base w cbase cw x0 by a k : ℕ)
    → packed (in_row luma base w (x0 + k)) (in_row cb cbase cw ((x0 + k) / by)) (in_row cr cbase cw ((x0 + k) / by))
    ≡ color_cell luma cb cr base w cbase cw x0 by a (a + k)
color_at_lem luma cb cr base w cbase cw x0 by a k = let e : a + k - a ≡ k = omega arith in rw e

-- within the planes no column is held
within-whole : (plane : List ℕ) (base w x : ℕ) → x < w → get_or plane (base + x) 0 ≡ in_row plane base w x
within-whole plane base w x h = let e : min x (w - 1) ≡ x = omega arith in rw e

pub whole-at : (luma cb cr : List ℕ) (base w cbase cw x0 size k : ℕ) → x0 + size ≤ w → x0 + size ≤ cw → k < size
    → packed (get_or luma (base + x0 + k) 0) (get_or cb (cbase + x0 + k) 0) (get_or cr (cbase + x0 + k) 0)
    ≡ packed (in_row luma base w (x0 + k)) (in_row cb cbase cw ((x0 + k) / 1)) (in_row cr cbase cw ((x0 + k) / 1))
whole-at luma cb cr base w cbase cw x0 size k h g l =
    let d : (x0 + k) / 1 ≡ x0 + k = omega arith in
    let a : base + x0 + k ≡ base + (x0 + k) = omega arith in
    let b : cbase + x0 + k ≡ cbase + (x0 + k) = omega arith in
    rw (d, a, b, within-whole luma base w (x0 + k) (omega arith), within-whole cb cbase cw (x0 + k) (omega arith), within-whole cr cbase cw (x0 + k) (omega arith))

-- two cells to a sample of chroma
pub pairs_at : (luma cb cr : List ℕ) (base w cbase cw x0 size k j p : ℕ) → x0 + size ≤ w → x0 + size ≤ 2 * cw → x0 % 2 ≡ 0 → size % 2 ≡ 0 → k < size / 2 → j ≤ 1 → p ≡ base + x0 + (2 * k + j)
    → packed (get_or luma p 0) (get_or cb (cbase + x0 / 2 + k) 0) (get_or cr (cbase + x0 / 2 + k) 0)
    ≡ packed (in_row luma base w (x0 + (2 * k + j))) (in_row cb cbase cw ((x0 + (2 * k + j)) / 2)) (in_row cr cbase cw ((x0 + (2 * k + j)) / 2))
pairs_at luma cb cr base w cbase cw x0 size k j p h g e f l m q =
    let d : (x0 + (2 * k + j)) / 2 ≡ x0 / 2 + k = omega arith in
    let a : p ≡ base + (x0 + (2 * k + j)) = omega arith in
    let b : cbase + x0 / 2 + k ≡ cbase + (x0 / 2 + k) = omega arith in
    rw (d, a, b, within-whole luma base w (x0 + (2 * k + j)) (omega arith), within-whole cb cbase cw (x0 / 2 + k) (omega arith), within-whole cr cbase cw (x0 / 2 + k) (omega arith))

-- one turn that lays two cells
pub laid-two : (f : ℕ → ℕ) (l out : List ℕ) (a k p q : ℕ) → out ≡ laid f l a (2 * k) → p ≡ f (a + (2 * k + 0)) → q ≡ f (a + (2 * k + 1)) → set (set out (a + 2 * k) p) (a + 2 * k + 1) q ≡ laid f l a (2 * (k + 1))
laid-two f l out a k p q e x y =
    let z : a + 2 * k + 1 ≡ a + (2 * k + 1) = omega arith in
    let w : 2 * (k + 1) ≡ 2 * k + 1 + 1 = omega arith in
    let o : 2 * k + 0 ≡ 2 * k = omega arith in
    rw (z, w) (laid-step f l (set out (a + 2 * k) p) a (2 * k + 1) q (laid-step f l out a (2 * k) p e (rw o at x)) y)

sample-row : (plane : List ℕ) (w h x y : ℕ) → 1 ≤ w → 1 ≤ h → sample_at plane w h x y ≡ in_row plane (min y (h - 1) * w) w x
unfolding sample_at
sample-row plane w h x y p q = rw (ne_eqb w 0 (λ e. omega arith), ne_eqb h 0 (λ e. omega arith))

chroma-row : (plane : List ℕ) (format : ℕ) (g : SourceBlock) (x y : ℕ) → 1 ≤ format → 1 ≤ g.cw → 1 ≤ g.chh
    → chroma_at plane format g x y ≡ in_row plane (min (y / sub_h format) (g.chh - 1) * g.cw) g.cw (x / sub_w format)
unfolding chroma_at
chroma-row plane format g x y f p q = rw (ne_eqb format 0 (λ e. omega arith)) (sample-row plane g.cw g.chh (x / sub_w format) (y / sub_h format) p q)

-- the luma of cell j
unfoldable pub luma_cell : List ℕ → SourceBlock → ℕ → ℕ
luma_cell luma g j = sample_at luma g.yw g.yh (g.x0 + j % g.size) (g.y0 + j / g.size)

-- one turn of the loops over rows
pub color_turn : (luma cb cr : List ℕ) (format : ℕ) (g : SourceBlock) (y base cbase by a : ℕ) (l out out' : List ℕ) → 1 ≤ g.yw → 1 ≤ g.yh
    → 1 ≤ format → 1 ≤ g.cw → 1 ≤ g.chh → a ≡ y * g.size → base ≡ min (g.y0 + y) (g.yh - 1) * g.yw
    → cbase ≡ min ((g.y0 + y) / sub_h format) (g.chh - 1) * g.cw → by ≡ sub_w format → out ≡ laid (cell_at luma cb cr format g) l 0 a
    → out' ≡ laid (color_cell luma cb cr base g.yw cbase g.cw g.x0 by a) out a g.size → out' ≡ laid (cell_at luma cb cr format g) l 0 (a + g.size)
unfolding cell_at color_at
color_turn luma cb cr format g y base cbase by a l out out' w h f cw ch e b d k o t =
    laid-row (cell_at luma cb cr format g) l out out' a g.size o (t ∙ rw (b, d, k, e) (laid_same _ _ out (y * g.size) g.size one))
  where
    one : (j : ℕ) → j < g.size
        → color_cell luma cb cr (min (g.y0 + y) (g.yh - 1) * g.yw) g.yw (min ((g.y0 + y) / sub_h format) (g.chh - 1) * g.cw) g.cw g.x0 (sub_w format) (y * g.size) (y * g.size + j)
        ≡ cell_at luma cb cr format g (y * g.size + j)
    one j m =
        let z : y * g.size + j - y * g.size ≡ j = omega arith in
        rw (z, digits_div y m, digits_mod y m, sample-row luma g.yw g.yh (g.x0 + j) (g.y0 + y) w h, chroma-row cb format g (g.x0 + j) (g.y0 + y) f cw ch, chroma-row cr format g (g.x0 + j) (g.y0 + y) f cw ch)

pub grey-turn : (luma : List ℕ) (g : SourceBlock) (y base a : ℕ) (l out out' : List ℕ) → 1 ≤ g.yw → 1 ≤ g.yh → a ≡ y * g.size
    → base ≡ min (g.y0 + y) (g.yh - 1) * g.yw → out ≡ laid (luma_cell luma g) l 0 a
    → out' ≡ laid (grey_cell luma base g.yw g.x0 a) out a g.size → out' ≡ laid (luma_cell luma g) l 0 (a + g.size)
unfolding luma_cell
grey-turn luma g y base a l out out' w h e b o t =
    laid-row (luma_cell luma g) l out out' a g.size o (t ∙ rw (b, e) (laid_same _ _ out (y * g.size) g.size one))
  where
    one : (j : ℕ) → j < g.size
        → grey_cell luma (min (g.y0 + y) (g.yh - 1) * g.yw) g.yw g.x0 (y * g.size) (y * g.size + j) ≡ luma_cell luma g (y * g.size + j)
    one j m =
        let z : y * g.size + j - y * g.size ≡ j = omega arith in
        rw (z, digits_div y m, digits_mod y m, sample-row luma g.yw g.yh (g.x0 + j) (g.y0 + y) w h)

-- ---- where no chroma is read the cell is its luma

-- whether there is chroma to read
abbrev pub has_chroma : ℕ → ℕ → ℕ → Bool
has_chroma format cw ch = every (not (eqb format 0) ∷ not (eqb cw 0) ∷ not (eqb ch 0) ∷ [])

no_chroma : (format : ℕ) (g : SourceBlock) → has_chroma format g.cw g.chh ≡ false → (p : List ℕ) (x z : ℕ) → chroma_at p format g x z ≡ 0
unfolding chroma_at sample_at
no_chroma format g h p x z = go (eqb format 0) (eqb g.cw 0) (eqb g.chh 0) _ h
  where
    go : (a b c : Bool) (v : ℕ) → every (not a ∷ not b ∷ not c ∷ []) ≡ false → pick a 0 (pick (any (b ∷ c ∷ [])) 0 v) ≡ 0
    go true b c v h = refl
    go false true c v h = refl
    go false false true v h = refl
    go false false false v h = absurd (true_false h)

pub grey-cells : (luma cb cr : List ℕ) (format : ℕ) (g : SourceBlock) (l : List ℕ) (k : ℕ) → has_chroma format g.cw g.chh ≡ false
    → laid (luma_cell luma g) l 0 k ≡ laid (cell_at luma cb cr format g) l 0 k
unfolding luma_cell cell_at color_at
grey-cells luma cb cr format g l k h = laid_same _ _ l 0 k (λ j m. one (0 + j))
  where
    one : (j : ℕ) → luma_cell luma g j ≡ cell_at luma cb cr format g j
    one j = rw (no_chroma format g h cb (g.x0 + j % g.size) (g.y0 + j / g.size), no_chroma format g h cr (g.x0 + j % g.size) (g.y0 + j / g.size)) (omega arith)

some : (x : ℕ) → eqb x 0 ≡ false → 1 ≤ x
some zero e = absurd (eqb-false 0 0 e refl)
some (suc x) e = omega arith

pub has_chroma_lem : (f w h : ℕ) → has_chroma f w h ≡ true → (1 ≤ f) × (1 ≤ w) × (1 ≤ h)
has_chroma_lem f w h e =
    let k : (eqb f 0 ≡ false) × (eqb w 0 ≡ false) × (eqb h 0 ≡ false) = go (eqb f 0) (eqb w 0) (eqb h 0) e in
    (some f k.0, some w k.1, some h k.2)
  where
    go : (a b c : Bool) → every (not a ∷ not b ∷ not c ∷ []) ≡ true → (a ≡ false) × (b ≡ false) × (c ≡ false)
    go true b c e = absurd (true_false (sym e))
    go false true c e = absurd (true_false (sym e))
    go false false true e = absurd (true_false (sym e))
    go false false false e = (refl, refl, refl)

-- ---- what refusal 3 leaves

pub record PlaneBounds (format : ℕ) (g : SourceBlock) (ny nb nr : ℕ) : Type 0 where
  pub luma : g.yw * g.yh ≤ ny
  pub cb : 1 ≤ format → g.cw * g.chh ≤ nb
  pub cr : 1 ≤ format → g.cw * g.chh ≤ nr

pub plane_bounds : (format : ℕ) (g : SourceBlock) (ny nb nr : ℕ) → planes_in format g ny nb nr ≡ true → PlaneBounds format g ny nb nr
unfolding planes_in
plane_bounds format g ny nb nr p =
    let c = every (leb (g.cw * g.chh) nb ∷ leb (g.cw * g.chh) nr ∷ []) in
    let l = both (leb (g.yw * g.yh) ny) (every (any (eqb format 0 ∷ c ∷ []) ∷ [])) p in
    let a = both (any (eqb format 0 ∷ c ∷ [])) true l.1 in
    let k : 1 ≤ format → c ≡ true = λ i. rw (ne_eqb format 0 (λ z. omega arith), pick_test c) at a.0 in
    let b : 1 ≤ format → (leb (g.cw * g.chh) nb ≡ true) × (every (leb (g.cw * g.chh) nr ∷ []) ≡ true) = λ i. both (leb (g.cw * g.chh) nb) (every (leb (g.cw * g.chh) nr ∷ [])) (k i) in
    record {
      luma = leb-true _ _ l.0;
      cb = λ i. leb-true _ _ (b i).0;
      cr = λ i. leb-true _ _ (both (leb (g.cw * g.chh) nr) true (b i).1).0;
    }
