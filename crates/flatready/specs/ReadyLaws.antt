-- What the tests on numbers say of the records.
use Rattle.std.specs.Prelude.{◌≡◌, refl, Bool, ◌&&◌, List, [], ◌∷◌, ℕ, ◌+◌, ◌*◌, ◌-◌, ◌≤◌, ◌<◌, min, length, take, drop}
use Rattle.std.proofs.Common.{ap, ◌∙◌, ⊎_elim, le_trans, mul-le-mul, arith}
use Rattle.std.proofs.Math.Path.{sym}
use Rattle.std.proofs.Math.Bool.{true, false}
use Rattle.std.proofs.Math.Nat.{min-eq_left}
use borrow.Author.Tests.{leb-true, le-leb, eq-eqb, ne_eqb, eqb-true}
use Rattle.std.proofs.Math.Dec.{eqb, leb}
use Rattle.std.proofs.Math.ListN.{get_or, length-replicate}
use Rattle.base.specs.Cells.{laid-length}
use Rattle.base.specs.Pick.{pick, either, true_false, lt_or_le}
use Rattle.base.specs.Tests.{every, any, both, ands, ands-every, and_pick, up_to, up_to-at, at_up_to}
use Rattle.h265.specs.Reuse.{trues}
use Rattle.h265.proofs.ReuseLaws.{trues-at, trues-end}
use Rattle.h265.specs.Strings.{bit}
use Rattle.flat.specs.Flat.{number, byte, each, color_at, levels_at, block_of, predictor_of}
use Rattle.flat.specs.FlatLaws.{each_at_lem}
use Rattle.model.specs.Domain.{most, most_chroma, color_in, no_color, predictor_in}
use Rattle.model.specs.Whole.{block_size_in, max_index, level_in, levels_in, no_levels, cell_holds, holds}
use Rattle.predictor.specs.Update.{update_refusal}
use Rattle.whole.specs.Parts.{size_holds, format_are, frame_holds, holds-rest, holds-bounds}
use Rattle.flatready.specs.Reach.{Under}
use Rattle.flatready.specs.Ready.{framed_of, level_most, BlockReady, Ready}

-- tests joined in a row are those joined in groups
pub frame_row : (a b c d e f g : Bool) → ands a (b ∷ c ∷ d ∷ e ∷ f ∷ g ∷ []) ≡ every (every (a ∷ b ∷ []) ∷ every (c ∷ d ∷ e ∷ []) ∷ f ∷ g ∷ [])
frame_row false b c d e f g = refl
frame_row true false c d e f g = refl
frame_row true true false d e f g = refl
frame_row true true true false e f g = refl
frame_row true true true true false f g = refl
frame_row true true true true true false g = refl
frame_row true true true true true true true = refl
frame_row true true true true true true false = refl

lower : (x m w : ℕ) → m ≤ w → leb x m ≡ true → leb x w ≡ true
lower x m w h e = le-leb x w (omega (arith, leb-true x m e))

byte-some : (x : ℕ) → 1 ≤ x → eqb (byte x) 0 ≡ false
byte-some x h = ne_eqb (byte x) 0 (λ e. omega arith)

-- ---- three numbers to an entry

module _ (l : List ℕ) (from n m w : ℕ) (low : m ≤ w) (all : up_to (3 * n) (λ i. leb (number l (from + i)) m) ≡ true) where
  at : (i j : ℕ) → i < n → j < 3 → leb (number l (from + (3 * i + j))) w ≡ true
  at i j h k = lower _ m w low (up_to-at _ (3 * n) all (3 * i + j) (omega arith))

  first : (i : ℕ) → i < n → leb (number l (from + 3 * i)) w ≡ true
  first i h = let e : from + (3 * i + 0) ≡ from + 3 * i = omega arith in rw e at (at i 0 h (omega arith))

  second : (i : ℕ) → i < n → leb (number l (from + 3 * i + 1)) w ≡ true
  second i h = let e : from + (3 * i + 1) ≡ from + 3 * i + 1 = omega arith in rw e at (at i 1 h (omega arith))

  third : (i : ℕ) → i < n → leb (number l (from + 3 * i + 2)) w ≡ true
  third i h = let e : from + (3 * i + 2) ≡ from + 3 * i + 2 = omega arith in rw e at (at i 2 h (omega arith))

-- colours of a format with chroma, at one depth
colors_fit : (l : List ℕ) (from n m format d : ℕ) → m ≤ most d → up_to (3 * n) (λ i. leb (number l (from + i)) m) ≡ true → eqb format 0 ≡ false → (i : ℕ) → i < n → color_in format d d (color_at l (from + 3 * i)) ≡ true
unfolding color_in color_at
colors_fit l from n m format d low all f i h = rw (f, first l from n m (most d) low all i h, second l from n m (most d) low all i h, third l from n m (most d) low all i h)

-- ---- flags

module _ (b : List ℕ) (count i : ℕ) where
  flags_long : length (block_of b).reused ≡ 128
  unfolding block_of
  flags_long = laid-length _ _ 0 128 ∙ length-replicate 128 false

  flag_at : i < 128 → get_or (block_of b).reused i false ≡ eqb (number b (208 + i)) 1
  unfolding block_of
  flag_at h = each_at_lem false false 128 (λ (j : ℕ). eqb (number b (208 + j)) 1) i h

  next : i < count → count ≤ 128 → trues (drop i (take count (block_of b).reused)) ≡ bit (eqb (number b (208 + i)) 1) + trues (drop (i + 1) (take count (block_of b).reused))
  next h k = let l : i < 128 = omega arith in rw (← flag_at l) (trues-at (block_of b).reused count i h (omega (arith, flags_long)))

  pub flag_on : i < count → count ≤ 128 → number b (208 + i) ≡ 1 → trues (drop i (take count (block_of b).reused)) ≡ 1 + trues (drop (i + 1) (take count (block_of b).reused))
  flag_on h k e = rw (eq-eqb _ _ e) at (next h k)

  pub flag_off : i < count → count ≤ 128 → (number b (208 + i) ≡ 1 → ⊥) → trues (drop i (take count (block_of b).reused)) ≡ 0 + trues (drop (i + 1) (take count (block_of b).reused))
  flag_off h k e = rw (ne_eqb _ _ e) at (next h k)

  pub flags-end : count ≤ i → count ≤ 128 → trues (drop i (take count (block_of b).reused)) ≡ 0
  flags-end h k = trues-end (block_of b).reused count i h (omega (arith, flags_long))

-- ---- cells

module _ (b : List ℕ) (n : ℕ) (is : n ≡ number b 5) (some : 1 ≤ n) (few : n ≤ 64) where
  index-at : (i : ℕ) → i < 1024 → number b (336 + i) ≤ n → get_or (block_of b).indices i 0 ≡ number b (336 + i)
  unfolding block_of
  index-at i h l = each_at_lem 0 0 1024 (λ (j : ℕ). byte (number b (336 + j))) i h ∙ min-eq_left (omega arith)

  -- an index of an entry
  cell_plain : (i : ℕ) → i < 1024 → number b (336 + i) ≤ n - 1 → cell_holds (block_of b) i ≡ true
  unfolding block_of cell_holds max_index
  cell_plain i h l =
      let z : get_or (block_of b).indices i 0 ≡ number b (336 + i) = index-at i h (omega arith) in
      rw (z, le-leb (number b (336 + i)) (number b 5 + bit (eqb (number b 8) 1) - 1) (omega arith), ne_eqb (number b (336 + i)) (number b 5) (λ w. omega arith))

  pub band_plain : (i r : ℕ) → i + 64 ≤ 1024 → Under b (336 + i) 64 (n - 1) r → r ≡ 0 → (k : ℕ) → i ≤ k → k < i + 64 → cell_holds (block_of b) k ≡ true
  band_plain i r h u e k o t =
      let z : 336 + i + (k - i) ≡ 336 + k = omega arith in
      let l : number b (336 + k) ≤ n - 1 + r = rw z at (u (k - i) (omega arith)) in
      cell_plain k (omega arith) (omega arith)

  -- escapes are on, and levels are in range of one depth
  module _ (same : number b 2 ≡ number b 3) (on : number b 8 ≡ 1) (m : ℕ) (low : m ≤ level_most b) where
    levels-fit : (i : ℕ) → i < 1024 → number b (1360 + 3 * i) ≤ m → number b (1360 + 3 * i + 1) ≤ m → number b (1360 + 3 * i + 2) ≤ m → levels_in (block_of b) (get_or (block_of b).escapes i no_levels) ≡ true
    unfolding block_of levels_in level_in levels_at
    levels-fit i k y u v =
        let a : leb (number b (1360 + 3 * i)) (level_most b) ≡ true = le-leb _ _ (le_trans y low) in
        let c : leb (number b (1360 + 3 * i + 1)) (level_most b) ≡ true = le-leb _ _ (le_trans u low) in
        let d : leb (number b (1360 + 3 * i + 2)) (level_most b) ≡ true = le-leb _ _ (le_trans v low) in
        rw (each_at_lem no_levels no_levels 1024 (λ (j : ℕ). levels_at b (1360 + 3 * j)) i k, ← same, a, c, d)
        (either (eqb (byte (number b 1)) 0) (λ e. rw e) (λ e. rw e))

    greatest : (i : ℕ) → number b (336 + i) ≤ n → leb (number b (336 + i)) ((block_of b).palette_size + bit (block_of b).escape_present - 1) ≡ true
    unfolding block_of
    greatest i l = rw on (le-leb (number b (336 + i)) (number b 5 + 1 - 1) (omega arith))

    cell-escaped : (i : ℕ) → i < 1024 → number b (336 + i) ≤ n → levels_in (block_of b) (get_or (block_of b).escapes i no_levels) ≡ true → cell_holds (block_of b) i ≡ true
    unfolding cell_holds max_index
    cell-escaped i h l t =
        let z : get_or (block_of b).indices i 0 ≡ number b (336 + i) = index-at i h l in
        rw (z, greatest i l, t) (either (eqb (number b (336 + i)) (block_of b).palette_size) (λ w. rw w) (λ w. rw w))

    pub band_escaped : (i r w : ℕ) → i + 64 ≤ 1024 → Under b (336 + i) 64 n r → r ≡ 0 → Under b (1360 + 3 * i) 192 0 w → w ≤ m → (k : ℕ) → i ≤ k → k < i + 64 → cell_holds (block_of b) k ≡ true
    band_escaped i r w h u e v f k o t =
        let z : 336 + i + (k - i) ≡ 336 + k = omega arith in
        let l : number b (336 + k) ≤ n + r = rw z at (u (k - i) (omega arith)) in
        let z₀ : 1360 + 3 * i + 3 * (k - i) ≡ 1360 + 3 * k = omega arith in
        let z₁ : 1360 + 3 * i + (3 * (k - i) + 1) ≡ 1360 + 3 * k + 1 = omega arith in
        let z₂ : 1360 + 3 * i + (3 * (k - i) + 2) ≡ 1360 + 3 * k + 2 = omega arith in
        let y₀ : number b (1360 + 3 * k) ≤ 0 + w = rw z₀ at (v (3 * (k - i)) (omega arith)) in
        let y₁ : number b (1360 + 3 * k + 1) ≤ 0 + w = rw z₁ at (v (3 * (k - i) + 1) (omega arith)) in
        let y₂ : number b (1360 + 3 * k + 2) ≤ 0 + w = rw z₂ at (v (3 * (k - i) + 2) (omega arith)) in
        cell-escaped k (omega arith) (omega arith) (levels-fit k (omega arith) (omega arith) (omega arith) (omega arith))

-- one band more
pub band_next : (f : ℕ → Bool) (g : ℕ) → ((k : ℕ) → k < 64 * g → f k ≡ true) → ((k : ℕ) → 64 * g ≤ k → k < 64 * g + 64 → f k ≡ true) → (k : ℕ) → k < 64 * (g + 1) → f k ≡ true
band_next f g h o k l = ⊎_elim (λ (z : k < 64 * g). h k z) (λ (z : 64 * g ≤ k). o k z (omega arith)) (lt_or_le k (64 * g))

-- ---- the block

module _ (b : List ℕ) (f : Bool) (is : f ≡ framed_of b) (counted : f && leb (number b 6) 128 ≡ true) where
  bounds : (number b 0 ≤ 32) × (number b 5 ≤ 64) × (number b 6 ≤ 128)
  unfolding block_of
  bounds = holds-bounds 64 (block_of b) f is counted

  pub cells-few : number b 0 * number b 0 ≤ 1024
  cells-few = let q : number b 0 * number b 0 ≤ 32 * 32 = mul-le-mul bounds.0 bounds.0 in omega arith

  pub entries-few : number b 5 ≤ 64
  entries-few = bounds.1

  pub flags-few : number b 6 ≤ 128
  flags-few = bounds.2

  -- the tests that make the quick way one for formats with chroma, one depth and a palette
  module _ (quick : ands (leb 1 (number b 5)) (leb 1 (number b 1) ∷ eqb (number b 2) (number b 3) ∷ []) ≡ true) where
    pub record Quick : Type 0 where
      pub some : 1 ≤ number b 5
      pub chroma : 1 ≤ number b 1
      pub same : number b 2 ≡ number b 3

    pub quick_is : Quick
    quick_is =
        let t = both (leb 1 (number b 5)) _ (sym (ands-every (leb 1 (number b 5)) (leb 1 (number b 1) ∷ eqb (number b 2) (number b 3) ∷ [])) ∙ quick) in
        let u = both (leb 1 (number b 1)) _ t.1 in
        record { some = leb-true _ _ t.0; chroma = leb-true _ _ u.0; same = eqb-true _ _ (both (eqb (number b 2) (number b 3)) true u.1).0 }

    module _ (m : ℕ) (low : m ≤ most (byte (number b 2))) where
      entries_fit : up_to (3 * number b 5) (λ i. leb (number b (16 + i)) m) ≡ true → up_to (block_of b).palette_size (λ i. color_in (block_of b).chroma_idc (block_of b).bd_luma (block_of b).bd_chroma (get_or (block_of b).palette i no_color)) ≡ true
      unfolding block_of
      entries_fit e =
          let z : eqb (byte (number b 1)) 0 ≡ false = byte-some (number b 1) quick_is.chroma in
          rw (← quick_is.same)
          (at_up_to _ (number b 5) (λ i k. rw (each_at_lem no_color no_color 64 (λ (j : ℕ). color_at b (16 + 3 * j)) i (omega (arith, bounds.1))) (colors_fit b 16 (number b 5) m (byte (number b 1)) (byte (number b 2)) low e z i k)))

      holds_quick : trues (take (number b 6) (block_of b).reused) + number b 7 ≡ number b 5 → up_to (3 * number b 5) (λ i. leb (number b (16 + i)) m) ≡ true → up_to (number b 0 * number b 0) (cell_holds (block_of b)) ≡ true → holds 64 (block_of b) ≡ true
      unfolding block_of
      holds_quick t e c =
          sym (holds-rest 64 (block_of b) f is true true true true counted (sym (eq-eqb _ _ t)) (sym (entries_fit e)) (sym c) (sym (rw (ne_eqb (number b 5) 0 (λ w. omega (arith, quick_is.some))))))

      pub block_ready : (t : ℕ) (c d : Bool) → 4432 ≤ length b → t ≡ trues (take (number b 6) (block_of b).reused) → c ≡ up_to (3 * number b 5) (λ i. leb (number b (16 + i)) m) → (d ≡ true → up_to (number b 0 * number b 0) (cell_holds (block_of b)) ≡ true) → ands (eqb (t + number b 7) (number b 5)) (c ∷ d ∷ []) ≡ true → BlockReady b
      block_ready t c d lb et ec ed all =
          let u = both (eqb (t + number b 7) (number b 5)) _ (sym (ands-every (eqb (t + number b 7) (number b 5)) (c ∷ d ∷ [])) ∙ all) in
          let v = both c _ u.1 in
          record {
            block = lb;
            together = holds_quick (ap (λ (x : ℕ). x + number b 7) (sym et) ∙ eqb-true (t + number b 7) (number b 5) u.0) (sym ec ∙ v.0) (ed (both d true v.1).0);
            entries = bounds.1;
            some = quick_is.some;
            chroma = quick_is.chroma;
            same = quick_is.same;
          }

-- ---- the call

no_refusal : (p b : List ℕ) (limit : ℕ) → block_size_in (block_of b) ≡ true → predictor_in (block_of b).chroma_idc (block_of b).bd_luma (block_of b).bd_chroma (predictor_of p) ≡ true → limit ≤ 128 → holds 64 (block_of b) ≡ true → update_refusal (predictor_of p) (block_of b) limit ≡ 0
unfolding update_refusal
no_refusal p b limit s q l h = rw (s, q, le-leb limit 128 l, h)

-- what holds together has a size
sized : (limit : ℕ) (b : List ℕ) → holds limit (block_of b) ≡ true → block_size_in (block_of b) ≡ true
unfolding holds
sized limit b e = (both (block_size_in (block_of b)) _ e).0

module _ (p b : List ℕ) (limit : ℕ) (r : BlockReady b) (counts : leb (number p 0) 128 && leb limit 128 ≡ true) where
  pub within : (number p 0 ≤ 128) × (limit ≤ 128)
  within =
      let t = both (leb (number p 0) 128) (leb limit 128) (sym (and_pick (leb (number p 0) 128) (leb limit 128)) ∙ counts) in
      (leb-true _ _ t.0, leb-true _ _ t.1)

  module _ (m : ℕ) (low : m ≤ most (byte (number b 2))) where
    predictor_fits : up_to (3 * number p 0) (λ i. leb (number p (1 + i)) m) ≡ true → predictor_in (block_of b).chroma_idc (block_of b).bd_luma (block_of b).bd_chroma (predictor_of p) ≡ true
    unfolding block_of predictor_of predictor_in
    predictor_fits e =
        let z : eqb (byte (number b 1)) 0 ≡ false = byte-some (number b 1) r.chroma in
        let a : up_to (number p 0) (λ i. color_in (byte (number b 1)) (byte (number b 2)) (byte (number b 2)) (get_or (each no_color 128 (λ i. color_at p (1 + 3 * i))) i no_color)) ≡ true =
        at_up_to _ (number p 0) (λ i k. rw (each_at_lem no_color no_color 128 (λ (j : ℕ). color_at p (1 + 3 * j)) i (omega (arith, within.0))) (colors_fit p 1 (number p 0) m (byte (number b 1)) (byte (number b 2)) low e z i k))
        in
        rw (← r.same, le-leb (number p 0) 128 within.0, a)

    pub ready_made : 385 ≤ length p → up_to (3 * number p 0) (λ i. leb (number p (1 + i)) m) ≡ true → Ready p b limit
    ready_made lp e = record {
      none = no_refusal p b limit (sized 64 b r.together) (predictor_fits e) within.1 r.together;
      block = r.block;
      predictor = lp;
      most = within.1;
      entries = r.entries;
      size = within.0;
    }
