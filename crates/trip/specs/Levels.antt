-- The levels that are read back, cell by cell.
use Rattle.std.specs.Prelude.{Bool, true, false, ◌≡◌, ℕ, zero, suc, ◌+◌, ◌*◌, ◌-◌, ◌≤◌, ◌<◌, ltb, eqb, take}
use mathlib.Core.List.{List, [], ◌∷◌, map}
use Rattle.std.proofs.Math.Path.{refl, sym}
use Rattle.std.proofs.Common.{ap, ◌∙◌, add-zero, zero-add, arith, length-drop, get_or-take}
use Rattle.std.proofs.Math.ListN.{length, get_or}
use borrow.Author.Tests.{eqb-true, ltb-false}
use Rattle.base.specs.Lists.{padded, padded-read}
use Rattle.base.specs.Pick.{pick, either}
use Rattle.base.specs.Tests.{every}
use Rattle.h265.specs.Reuse.{trues}
use Rattle.model.specs.Whole.{max_index, no_levels}
use Rattle.model.specs.WholeLaws.{whole}
use Rattle.model.specs.declared.Levels.{Levels}
use Rattle.model.specs.declared.PaletteCu.{PaletteCu}
use Rattle.model.specs.declared.PalettePredictor.{PalettePredictor}
use Rattle.readblock.specs.Read.{zip_levels}
use Rattle.syntax.specs.Block.{colours, palette_of, chroma_due, dues}
use Rattle.syntax.specs.Records.{call_of, block_of}
use Rattle.syntax.specs.Runs.{Run}
use Rattle.syntax.specs.Whole.{top_index, keep_due, turned_of, read_back}
use Rattle.eyes.specs.Ready.{Ready, Arrays}
use Rattle.trip.specs.Demand.{escaped, levels_sent}
use Rattle.trip.specs.Suit.{call, colours_are, cells_are, top-is, column-is, column-at, suit_whole}

-- ---- lists

pub zip_length : (ys us vs : List ℕ) → length us ≡ length ys → length vs ≡ length ys → length (zip_levels ys us vs) ≡ length ys
unfolding zip_levels
zip_length [] us vs a b = refl
zip_length (y ∷ ys) [] vs a b = absurd (omega arith)
zip_length (y ∷ ys) (u ∷ us) [] a b = absurd (omega arith)
zip_length (y ∷ ys) (u ∷ us) (v ∷ vs) a b = ap suc (zip_length ys us vs (omega arith) (omega arith))

pub zip-at : (ys us vs : List ℕ) (i : ℕ) → i < length ys → length us ≡ length ys → length vs ≡ length ys → get_or (zip_levels ys us vs) i no_levels ≡ record { y = get_or ys i 0; cb = get_or us i 0; cr = get_or vs i 0 }
unfolding zip_levels
zip-at [] us vs i h a b = absurd (omega arith)
zip-at (y ∷ ys) [] vs i h a b = absurd (omega arith)
zip-at (y ∷ ys) (u ∷ us) [] i h a b = absurd (omega arith)
zip-at (y ∷ ys) (u ∷ us) (v ∷ vs) zero h a b = refl
zip-at (y ∷ ys) (u ∷ us) (v ∷ vs) (suc i) h a b = zip-at ys us vs i (omega arith) (omega arith) (omega arith)

keep_length : (ds : List Bool) (vs : List ℕ) → length ds ≡ length vs → length (keep_due ds vs) ≡ length ds
unfolding keep_due
keep_length [] vs e = refl
keep_length (d ∷ ds) [] e = absurd (omega arith)
keep_length (d ∷ ds) (v ∷ vs) e = ap suc (keep_length ds vs (omega arith))

keep_at : (ds : List Bool) (vs : List ℕ) (i : ℕ) → length ds ≡ length vs → i < length ds → get_or (keep_due ds vs) i 0 ≡ pick (get_or ds i false) (get_or vs i 0) 0
unfolding keep_due
keep_at [] vs i e h = absurd (omega arith)
keep_at (d ∷ ds) [] i e h = absurd (omega arith)
keep_at (d ∷ ds) (v ∷ vs) zero e h = refl
keep_at (d ∷ ds) (v ∷ vs) (suc i) e h = keep_at ds vs i (omega arith) (omega arith)

dues-length : (at : ℕ → Bool) (e k : ℕ) (xs : List ℕ) → length (dues at e k xs) ≡ length xs
unfolding dues
dues-length at e k [] = refl
dues-length at e k (x ∷ xs) = ap suc (dues-length at e (suc k) xs)

dues-at : (at : ℕ → Bool) (e k : ℕ) (xs : List ℕ) (i : ℕ) → i < length xs → get_or (dues at e k xs) i false ≡ pick (eqb (get_or xs i 0) e) (at (k + i)) false
unfolding dues
dues-at at e k [] i h = absurd (omega arith)
dues-at at e k (x ∷ xs) zero h = rw (add-zero k)
dues-at at e k (x ∷ xs) (suc i) h = let z : k + suc i ≡ suc k + i = omega arith in rw z (dues-at at e (suc k) xs i (omega arith))

-- one component: what is kept of the values vs at the cells xs
module _ (at : ℕ → Bool) (e : ℕ) (xs vs : List ℕ) (n : length xs ≡ length vs) where
  abbrev kept : List ℕ
  kept = keep_due (dues at e 0 xs) vs

  kept-length : length kept ≡ length xs
  kept-length = keep_length (dues at e 0 xs) vs (dues-length at e 0 xs ∙ n) ∙ dues-length at e 0 xs

  kept_at : (i : ℕ) → i < length xs → get_or kept i 0 ≡ pick (pick (eqb (get_or xs i 0) e) (at i) false) (get_or vs i 0) 0
  kept_at i h =
      keep_at (dues at e 0 xs) vs i (dues-length at e 0 xs ∙ n) (omega (arith, dues-length at e 0 xs))
      ∙ ap (λ (t : Bool). pick t (get_or vs i 0) 0) (dues-at at e 0 xs i h ∙ ap (λ (j : ℕ). pick (eqb (get_or xs i 0) e) (at j) false) (zero-add i))

-- ---- the block's levels

module _ (cu : PaletteCu) (p : PalettePredictor) (a : Arrays p cu) (ready : Ready p cu) where
  abbrev n : ℕ
  n = cu.size * cu.size

  pub colours-sum : colours (palette_of (block_of cu)) ≡ cu.palette_size
  colours-sum =
      let f = trues (take cu.pred_size cu.reused) in
      omega (arith, length-drop f (take cu.palette_size cu.palette), colours_are cu p a ready, (whole 64 cu ready.whole).counts)

  -- an escape's index is M, and an empty palette has escapes and is not transposed
  escape_on : (i : ℕ) → i < n → escaped cu i ≡ true → cu.escape_present ≡ true
  unfolding max_index
  escape_on i h e =
      either cu.escape_present (λ t. t) (λ t.
      let m : get_or cu.indices i 0 ≤ cu.palette_size + 0 - 1 = rw t at ((whole 64 cu ready.whole).index i h) in
      let z : cu.palette_size ≡ 0 = omega (arith, eqb-true (get_or cu.indices i 0) cu.palette_size e) in
      ((suit_whole cu p a ready).empty (colours_are cu p a ready ∙ z)).0)

  turned_on : (i : ℕ) → i < n → escaped cu i ≡ true → turned_of (block_of cu) ≡ cu.transpose
  turned_on i h e =
      either (ltb 0 (top_index (block_of cu))) (λ t. rw t) (λ t.
      let m : max_index cu ≤ 0 = rw (top-is cu p a ready) at (ltb-false 0 (top_index (block_of cu)) t) in
      let z : cu.palette_size ≡ 0 = omega (arith, eqb-true (get_or cu.indices i 0) cu.palette_size e, (whole 64 cu ready.whole).index i h) in
      rw t (sym ((suit_whole cu p a ready).empty (colours_are cu p a ready ∙ z)).1))

  luma_same : (t b : Bool) (v : ℕ) → (t ≡ true → b ≡ true) → pick (pick t b false) v 0 ≡ pick t v 0
  luma_same true b v h = rw (h refl)
  luma_same false b v h = refl

  chroma-same : (t b d d' : Bool) (v : ℕ) → (t ≡ true → (b ≡ true) × (d ≡ d')) → pick (pick t (pick b d false) false) v 0 ≡ pick (every (t ∷ d' ∷ [])) v 0
  chroma-same true b d true v h = rw ((h refl).0, (h refl).1)
  chroma-same true b d false v h = rw ((h refl).0, (h refl).1)
  chroma-same false b d d' v h = refl

  due_same : (turned : Bool) (i : ℕ) → chroma_due (call cu p a ready) turned i ≡ chroma_due (call_of 64 [] cu) turned i
  unfolding chroma_due
  due_same turned i = refl

  -- one component's levels
  module _ (f : Levels → ℕ) (zero_is : f no_levels ≡ 0) (at : ℕ → Bool) where
    abbrev vs : List ℕ
    vs = map f (take n cu.escapes)

    abbrev read : List ℕ
    read = keep_due (dues at cu.palette_size 0 (take n cu.indices)) vs

    read_length : length read ≡ n
    read_length = kept-length at cu.palette_size (take n cu.indices) vs (column-is cu p a ready f) ∙ cells_are cu p a ready

    read_at : (i : ℕ) → i < n → get_or read i 0 ≡ pick (pick (escaped cu i) (at i) false) (f (get_or cu.escapes i no_levels)) 0
    read_at i h =
        let q : get_or vs i 0 ≡ f (get_or cu.escapes i no_levels) = sym (ap (λ (z : ℕ). get_or vs i z) zero_is) ∙ column-at cu p a ready f i h in
        kept_at at cu.palette_size (take n cu.indices) vs (column-is cu p a ready f) i (omega (arith, cells_are cu p a ready))
        ∙ rw (get_or-take n cu.indices i 0 h, q)

  -- where levels are due
  abbrev luma_at : ℕ → Bool
  luma_at i = cu.escape_present

  abbrev chroma_at : ℕ → Bool
  chroma_at i = pick cu.escape_present (chroma_due (call cu p a ready) (turned_of (block_of cu)) i) false

  abbrev ys : List ℕ
  ys = read (λ v. v.y) refl luma_at

  abbrev us : List ℕ
  us = read (λ v. v.cb) refl chroma_at

  abbrev ws : List ℕ
  ws = read (λ v. v.cr) refl chroma_at

  chroma-at : (i v : ℕ) → i < n → pick (pick (escaped cu i) (chroma_at i) false) v 0 ≡ pick (every (escaped cu i ∷ chroma_due (call_of 64 [] cu) cu.transpose i ∷ [])) v 0
  chroma-at i v h =
      chroma-same (escaped cu i) cu.escape_present (chroma_due (call cu p a ready) (turned_of (block_of cu)) i) (chroma_due (call_of 64 [] cu) cu.transpose i) v
      (λ e. (escape_on i h e, due_same (turned_of (block_of cu)) i ∙ ap (λ (t : Bool). chroma_due (call_of 64 [] cu) t i) (turned_on i h e)))

  parts-back : (i : ℕ) → i < n → get_or (padded 1024 no_levels (zip_levels ys us ws)) i no_levels ≡ levels_sent cu i
  unfolding levels_sent
  parts-back i h =
      let ly = read_length (λ v. v.y) refl luma_at in
      let lu = read_length (λ v. v.cb) refl chroma_at in
      let lw = read_length (λ v. v.cr) refl chroma_at in
      let du : length us ≡ length ys = lu ∙ sym ly in
      let dw : length ws ≡ length ys = lw ∙ sym ly in
      let o : i < length ys = rw ly h in
      let ey : get_or ys i 0 ≡ pick (escaped cu i) (get_or cu.escapes i no_levels).y 0 = read_at (λ v. v.y) refl luma_at i h ∙ luma_same (escaped cu i) cu.escape_present (get_or cu.escapes i no_levels).y (escape_on i h) in
      let eu : get_or us i 0 ≡ pick (every (escaped cu i ∷ chroma_due (call_of 64 [] cu) cu.transpose i ∷ [])) (get_or cu.escapes i no_levels).cb 0 = read_at (λ v. v.cb) refl chroma_at i h ∙ chroma-at i (get_or cu.escapes i no_levels).cb h in
      let ew : get_or ws i 0 ≡ pick (every (escaped cu i ∷ chroma_due (call_of 64 [] cu) cu.transpose i ∷ [])) (get_or cu.escapes i no_levels).cr 0 = read_at (λ v. v.cr) refl chroma_at i h ∙ chroma-at i (get_or cu.escapes i no_levels).cr h in
      padded-read 1024 no_levels no_levels (zip_levels ys us ws) i (rw (zip_length ys us ws du dw) o)
      ∙ (zip-at ys us ws i o du dw ∙ (λ j. record { y = ey j; cb = eu j; cr = ew j }))

  -- the levels of the block that is read back
  pub levels_back : (rs : List Run) (i : ℕ) → i < n
      → get_or (padded 1024 no_levels (zip_levels (read_back (call cu p a ready) (block_of cu) rs).block.levels.y (read_back (call cu p a ready) (block_of cu) rs).block.levels.cb (read_back (call cu p a ready) (block_of cu) rs).block.levels.cr)) i no_levels ≡ levels_sent cu i
  unfolding read_back
  levels_back rs i h = rw colours-sum (parts-back i h)
