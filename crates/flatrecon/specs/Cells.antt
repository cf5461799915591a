-- The cells of a list of numbers that is a block in order: their colours are the record's.
use Rattle.std.specs.Prelude.{◌≡◌, refl, Bool, true, false, not, List, [], ◌∷◌, ℕ, ◌+◌, ◌*◌, ◌-◌, ◌≤◌, ◌<◌, eqb, replicate}
use Rattle.std.proofs.Math.Path.{ap, sym}
use Rattle.std.proofs.Common.{◌∙◌, mul-le-mul, arith}
use Rattle.std.proofs.Math.Logic.{⊎_elim}
use Rattle.std.proofs.Math.Nat.{min-eq_left, min-eq_right}
use borrow.Author.Tests.{ne_eqb, eqb-false, not-true}
use Rattle.std.proofs.Math.ListN.{get_or, get_or-map}
use Rattle.std.proofs.lemmas.List.{length-replicate}
use Rattle.base.specs.Cells.{laid, laid_in, laid_same}
use Rattle.base.specs.Pick.{either, lt_or_le}
use Rattle.base.specs.Tests.{every, ands, up_to, up_to-at}
use Rattle.h265.specs.Strings.{bit}
use Rattle.h265.specs.BitLaws.{bit_below}
use Rattle.model.specs.declared.PaletteConfig.{PaletteConfig}
use Rattle.model.specs.declared.SourceBlock.{SourceBlock}
use Rattle.model.specs.Domain.{no_color}
use Rattle.model.specs.Whole.{no_levels, max_index, matches, matches_size}
use Rattle.model.specs.WholeLaws.{whole}
use Rattle.entries.specs.Entries.{packed_of, palette_of}
use Rattle.levels.specs.declared.Scale.{Scale}
use Rattle.levels.specs.Levels.{scale_of, value_at}
use Rattle.flat.specs.Flat.{number, byte, color_at, levels_at, block_of}
use Rattle.flat.specs.FlatLaws.{each_at_lem}
use Rattle.flatready.specs.Ready.{BlockReady}
use Rattle.sse.specs.Sse.{block_in}
use Rattle.recon.specs.Recon.{cell_color}

-- the indices of n cells from cell i on are at most m
abbrev pub Indexed : List ℕ → ℕ → ℕ → ℕ → Type 0
Indexed b i n m = (k : ℕ) → k < n → number b (336 + (i + k)) ≤ m

-- entry k of the palette, as one number
abbrev pub entry_of : List ℕ → ℕ → ℕ
entry_of b k = packed_of (color_at b (16 + 3 * k))

-- what cell j decodes to with a palette of packed entries, where index p is an escape's
abbrev pub value_of : Scale → List ℕ → List ℕ → ℕ → ℕ → ℕ
value_of s palette b p j = value_at s palette p (number b (336 + j)) (levels_at b (1360 + 3 * j))

-- tests joined in a row are those joined in groups
pub call-row : (a b c d e : Bool) → ands a (b ∷ c ∷ d ∷ e ∷ []) ≡ every (every (a ∷ b ∷ c ∷ d ∷ []) ∷ e ∷ [])
call-row false b c d e = refl
call-row true false c d e = refl
call-row true true false d e = refl
call-row true true true false e = refl
call-row true true true true true = refl
call-row true true true true false = refl

-- ---- cells none of which escapes

module _ (b : List ℕ) (i n p : ℕ) (all : up_to 16 (λ k. not (eqb (number b (336 + (i + k))) p)) ≡ true) (few : n ≤ 16) where
  other : (k : ℕ) → k < n → eqb (number b (336 + (i + k))) p ≡ false
  other k h = not-true (eqb (number b (336 + (i + k))) p) (up_to-at (λ k. not (eqb (number b (336 + (i + k))) p)) 16 all k (omega arith))

  pub quiet_indexed : p ≤ 64 → Indexed b i n p → Indexed b i n 63
  quiet_indexed h f k l = let z = eqb-false (number b (336 + (i + k))) p (other k l) in let o = f k l in ⊎_elim (λ (w : number b (336 + (i + k)) < p). omega arith) (λ (w : p ≤ number b (336 + (i + k))). absurd (z (omega arith))) (lt_or_le (number b (336 + (i + k))) p)

  pub quiet_painted : (s : Scale) (palette l : List ℕ) → laid (λ j. get_or palette (number b (336 + j)) 0) l i n ≡ laid (value_of s palette b p) l i n
  unfolding value_at
  quiet_painted s palette l = laid_same (λ j. get_or palette (number b (336 + j)) 0) (value_of s palette b p) l i n (λ k h. rw (other k h))

-- the indices of a stretch of cells
pub indexed-part : (b : List ℕ) (m p i n : ℕ) → Indexed b 0 m p → i + n ≤ m → Indexed b i n p
indexed-part b m p i n f h k l = let z : 0 + (i + k) ≡ i + k = omega arith in rw z at (f (i + k) (omega arith))

-- ---- the record's cells

byte-own : (x : ℕ) → byte x ≤ 64 → x ≡ byte x
byte-own x h = ⊎_elim (λ (l : x < 255). sym (min-eq_left (omega arith))) (λ (l : 255 ≤ x). let e : byte x ≡ 255 = min-eq_right l in absurd (omega arith)) (lt_or_le x 255)

module _ (b : List ℕ) (r : BlockReady b) where
  pub sides : number b 0 ≤ 32
  unfolding block_of
  sides = (whole 64 (block_of b) r.together).small

  pub cells-few : number b 0 * number b 0 ≤ 1024
  cells-few = let q : number b 0 * number b 0 ≤ 32 * 32 = mul-le-mul sides sides in omega arith

  record Index (j : ℕ) : Type 0 where
    pub is : get_or (block_of b).indices j 0 ≡ number b (336 + j)
    pub most : number b (336 + j) ≤ number b 5 + bit (eqb (number b 8) 1) - 1

  index : (j : ℕ) → j < number b 0 * number b 0 → Index j
  unfolding block_of max_index
  index j h =
      let w = whole 64 (block_of b) r.together in
      let f : get_or (block_of b).indices j 0 ≡ byte (number b (336 + j)) = each_at_lem 0 0 1024 (λ (i : ℕ). byte (number b (336 + i))) j (omega (arith, cells-few)) in
      let o : number b (336 + j) ≡ byte (number b (336 + j)) = byte-own (number b (336 + j)) (omega (arith, w.index j h, w.entries, f, bit_below (eqb (number b 8) 1))) in
      record { is = f ∙ sym o; most = omega (arith, w.index j h, f, o) }

  levels_are : (j : ℕ) → j < 1024 → get_or (block_of b).escapes j no_levels ≡ levels_at b (1360 + 3 * j)
  unfolding block_of
  levels_are j h = each_at_lem no_levels no_levels 1024 (λ (i : ℕ). levels_at b (1360 + 3 * i)) j h

  entry-is : (k : ℕ) → k < 64 → get_or (palette_of (block_of b)) k 0 ≡ entry_of b k
  unfolding block_of packed_of
  entry-is k h = get_or-map packed_of (block_of b).palette k no_color ∙ ap packed_of (each_at_lem no_color no_color 64 (λ (i : ℕ). color_at b (16 + 3 * i)) k h)

  -- indices are of entries, or where escapes are on the one past them
  pub indexed : (m : ℕ) → m ≤ number b 0 * number b 0 → Indexed b 0 m (number b 5)
  indexed m h k l = let z : 0 + k ≡ k = omega arith in rw z (omega (arith, (index k (omega arith)).most, bit_below (eqb (number b 8) 1)))

  pub indexed-off : (m : ℕ) → m ≤ number b 0 * number b 0 → (number b 8 ≡ 1 → ⊥) → Indexed b 0 m 63
  indexed-off m h off k l =
      let z : 0 + k ≡ k = omega arith in
      let o : number b (336 + k) ≤ number b 5 + 0 - 1 = rw (ne_eqb _ _ off) at (index k (omega arith)).most in
      rw z (omega (arith, r.entries))

  module _ (c : PaletteConfig) (palette : List ℕ) (are : palette ≡ laid (entry_of b) (replicate 64 0) 0 (number b 5)) where
    own : (k : ℕ) → k < number b 5 → get_or palette k 0 ≡ get_or (palette_of (block_of b)) k 0
    own k h =
        rw are (laid_in (entry_of b) (replicate 64 0) 0 (number b 5) k 0 (omega arith) (omega arith) (omega (arith, length-replicate {A = ℕ} 64 0, r.entries)))
        ∙ sym (entry-is k (omega (arith, r.entries)))

    color_is : (j : ℕ) → j < number b 0 * number b 0 → value_of (scale_of c) palette b (number b 5) j ≡ value_at (scale_of c) (palette_of (block_of b)) (number b 5) (number b (336 + j)) (get_or (block_of b).escapes j no_levels)
    unfolding value_at
    color_is j h =
        either (eqb (number b (336 + j)) (number b 5))
        (λ t. rw (t, levels_are j (omega (arith, cells-few))))
        (λ t.
        let n = eqb-false (number b (336 + j)) (number b 5) t in
        let o : number b (336 + j) ≤ number b 5 = omega (arith, (index j h).most, bit_below (eqb (number b 8) 1)) in
        let l : number b (336 + j) < number b 5 = ⊎_elim (λ (w : number b (336 + j) < number b 5). w) (λ (w : number b 5 ≤ number b (336 + j)). absurd (n (omega arith))) (lt_or_le (number b (336 + j)) (number b 5)) in
        rw (t, own (number b (336 + j)) l))

    cell : (j : ℕ) → j < number b 0 * number b 0 → value_of (scale_of c) palette b (number b 5) j ≡ cell_color c (block_of b) j
    unfolding cell_color block_of
    cell j h = color_is j h ∙ rw (index j h).is

    pub decoded : (l : List ℕ) (m : ℕ) → m ≤ number b 0 * number b 0 → laid (value_of (scale_of c) palette b (number b 5)) l 0 m ≡ laid (cell_color c (block_of b)) l 0 m
    decoded l m h = laid_same (value_of (scale_of c) palette b (number b 5)) (cell_color c (block_of b)) l 0 m (λ k o. cell (0 + k) (omega arith))

    pub painted : (l : List ℕ) (m : ℕ) → m ≤ number b 0 * number b 0 → (number b 8 ≡ 1 → ⊥) → laid (λ j. get_or palette (number b (336 + j)) 0) l 0 m ≡ laid (cell_color c (block_of b)) l 0 m
    unfolding value_at
    painted l m h off =
        laid_same (λ j. get_or palette (number b (336 + j)) 0) (value_of (scale_of c) palette b (number b 5)) l 0 m (λ k o.
        let f : number b (336 + (0 + k)) ≤ number b 5 + 0 - 1 = rw (ne_eqb _ _ off) at (index (0 + k) (omega arith)).most in
        rw (ne_eqb (number b (336 + (0 + k))) (number b 5) (λ w. omega (arith, r.some))))
        ∙ decoded l m h

  -- ---- the call's block

  pub in_call : (c : PaletteConfig) (g : SourceBlock) (t : Bool) → t ≡ every (matches c (block_of b) ∷ matches_size g.size (block_of b) ∷ []) → t ≡ block_in c g (block_of b)
  unfolding block_in
  in_call c g t e = e ∙ rw r.together
