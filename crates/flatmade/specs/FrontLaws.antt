-- Head, palette and flags make the front of a block, and zeros after it the block that analysis makes.
use Rattle.std.specs.Prelude.{◌≡◌, Bool, false, ℕ, zero, suc, ◌+◌, ◌*◌, ◌-◌, ◌/◌, ◌%◌, ◌≤◌, ◌<◌, min, length, take, drop, get_or, set, replicate}
use Rattle.std.proofs.Math.Path.{refl, ap}
use Rattle.std.proofs.Common.{sym, ◌∙◌, ⊎_elim, add-one, arith, drop_of_length-le, take_at}
use mathlib.Core.List.{List, [], ◌∷◌, ◌++◌, map, append_assoc, append-nil}
use Rattle.std.proofs.Math.ListN.{length-append}
use Rattle.std.proofs.lemmas.List.{length-map, length-replicate, replicate-append-replicate}
use Rattle.std.proofs.Math.Seq.{sets, length-sets}
use Rattle.std.proofs.lemmas.List.Edits.{sets-eq}
use Rattle.base.specs.Laid.{sets_append}
use Rattle.base.specs.Pick.{lt_or_le}
use Rattle.h265.specs.Strings.{bit}
use Rattle.model.specs.Whole.{no_levels}
use Rattle.model.specs.declared.PaletteConfig.{PaletteConfig}
use Rattle.choose.specs.declared.Painting.{Painting}
use Rattle.blocks.specs.Blocks.{color_of}
use Rattle.blocks.specs.Laws.{block_with}
use Rattle.flat.specs.Flat.{head_of, colors_of, levels_of, flat_block}
use Rattle.flat.specs.FlatLaws.{colors_length}
use Rattle.layflat.specs.Rest.{rest-next, rest_end, flags-next, flags-end}
use Rattle.flatcounter.specs.CounterLaws.{past_end}
use Rattle.flatmade.specs.Front.{front_of, head_with}

-- ---- the palette, three numbers at a turn

pub palette_next : (l ps : List ℕ) (i : ℕ) → i < length ps
    → sets (set (set (set l (16 + 3 * i) (get_or ps i 0 % 65536)) (16 + 3 * i + 1) (get_or ps i 0 / 65536 % 65536)) (16 + 3 * i + 2) (get_or ps i 0 / 4294967296 % 65536)) (16 + 3 * (i + 1)) (colors_of (map color_of (drop (i + 1) ps)))
    ≡ sets l (16 + 3 * i) (colors_of (map color_of (drop i ps)))
unfolding colors_of color_of
palette_next l ps i h =
    let a : 16 + 3 * (i + 1) ≡ suc (suc (suc (16 + 3 * i))) = omega arith in
    let b : 16 + 3 * i + 1 ≡ suc (16 + 3 * i) = omega arith in
    let c : 16 + 3 * i + 2 ≡ suc (suc (16 + 3 * i)) = omega arith in
    rw (rest-next ps i 0 h, a, b, c)

pub palette_end : (l ps : List ℕ) (i : ℕ) → length ps ≤ i → sets l (16 + 3 * i) (colors_of (map color_of (drop i ps))) ≡ l
unfolding colors_of
palette_end l ps i h = rw (rest_end ps i h)

-- ---- the flags

pub flag_next : (l : List ℕ) (fs : List Bool) (i : ℕ) → i < length fs → sets (set l (208 + i) (bit (get_or fs i false))) (208 + (i + 1)) (map bit (drop (i + 1) fs)) ≡ sets l (208 + i) (map bit (drop i fs))
flag_next l fs i h = let a : 208 + (i + 1) ≡ suc (208 + i) = omega arith in rw (flags-next fs i h, a)

pub flag_end : (l : List ℕ) (fs : List Bool) (i : ℕ) → length fs ≤ i → sets l (208 + i) (map bit (drop i fs)) ≡ l
flag_end l fs i h = rw (flags-end fs i h)

-- ---- the front

pub head-made : (c : PaletteConfig) (size predictors tol : ℕ) (w : Painting) → head_with c size predictors tol w.size (w.size - w.reused) ≡ head_of (block_with c size predictors tol w)
unfolding head_with head_of block_with
head-made c size predictors tol w = refl

joined : (h z cs fs : List ℕ) → length h ≡ 16 → length z ≡ 320 → length cs ≡ 192 → length fs ≡ 128 → sets (sets (h ++ z) 16 cs) 208 fs ≡ h ++ (cs ++ fs)
joined h z cs fs a b c d =
    let x = h ++ z in
    let k : length x ≡ 336 = length-append h z ∙ omega arith in
    let r = drop (16 + length cs) x in
    let e : sets x 16 cs ≡ (h ++ cs) ++ r = sets-eq cs x 16 (omega arith) ∙ rw (take_at h z 16 a) in
    let y = sets x 16 cs in
    let m : length y ≡ 336 = length-sets x 16 cs ∙ k in
    let t : take 208 y ≡ h ++ cs = ap (take 208) e ∙ take_at (h ++ cs) r 208 (length-append h cs ∙ omega arith) in
    let o : drop (208 + length fs) y ≡ [] = drop_of_length-le y {i = 208 + length fs} (omega arith) in
    sets-eq fs y 208 (omega arith) ∙ rw (t, o) (append-nil ((h ++ cs) ++ fs) ∙ append_assoc h cs fs)

-- no levels are zeros
levels-none : (n : ℕ) → levels_of (replicate n no_levels) ≡ replicate (3 * n) 0
unfolding levels_of
levels-none zero = refl
levels-none (suc n) = let e : 3 * suc n ≡ suc (suc (suc (3 * n))) = omega arith in rw e (ap (λ (l : List ℕ). 0 ∷ 0 ∷ 0 ∷ l) (levels-none n))

zeros-after : (c : PaletteConfig) (size predictors tol : ℕ) (w : Painting) → front_of (block_with c size predictors tol w) ++ replicate 4096 0 ≡ flat_block (block_with c size predictors tol w)
unfolding flat_block block_with
zeros-after c size predictors tol w =
    let h = head_of (block_with c size predictors tol w) in
    let cs = colors_of (map color_of w.palette) in
    let fs = map bit w.flags in
    let e : replicate 1024 0 ++ levels_of (replicate 1024 no_levels) ≡ replicate 4096 0 = ap (λ (l : List ℕ). replicate 1024 0 ++ l) (levels-none 1024) ∙ replicate-append-replicate {A = ℕ} 1024 3072 0 in
    append_assoc h (cs ++ fs) (replicate 4096 0) ∙ ap (λ (l : List ℕ). h ++ l) (append_assoc cs fs (replicate 4096 0)) ∙ ap (λ (l : List ℕ). h ++ (cs ++ (fs ++ l))) (sym e)

module _ (c : PaletteConfig) (size predictors tol : ℕ) (w : Painting) (wide : length w.palette ≡ 64) (long : length w.flags ≡ 128) where
  colors_wide : length (colors_of (map color_of w.palette)) ≡ 192
  colors_wide = colors_length (map color_of w.palette) ∙ rw (length-map w.palette color_of, wide)

  flags_wide : length (map bit w.flags) ≡ 128
  flags_wide = length-map w.flags bit ∙ long

  pub front-made : (h p f : List ℕ) → h ≡ head_with c size predictors tol w.size (w.size - w.reused) ++ replicate 320 0 → p ≡ sets h 16 (colors_of (map color_of w.palette)) → f ≡ sets p 208 (map bit w.flags)
      → f ≡ front_of (block_with c size predictors tol w)
  unfolding head_with block_with
  front-made h p f a b d =
      d
      ∙ ap (λ (l : List ℕ). sets l 208 (map bit w.flags)) (b ∙ ap (λ (l : List ℕ). sets l 16 (colors_of (map color_of w.palette))) a)
      ∙ joined (head_with c size predictors tol w.size (w.size - w.reused)) (replicate 320 0) (colors_of (map color_of w.palette)) (map bit w.flags) refl (length-replicate {A = ℕ} 320 0) colors_wide flags_wide
      ∙ ap (λ (l : List ℕ). l ++ (colors_of (map color_of w.palette) ++ map bit w.flags)) (head-made c size predictors tol w)

  -- ---- and zeros after it

  front_wide : length (front_of (block_with c size predictors tol w)) ≡ 336
  unfolding block_with head_of
  front_wide =
      length-append (head_of (block_with c size predictors tol w)) (colors_of (map color_of w.palette) ++ map bit w.flags)
      ∙ omega (arith, length-append (colors_of (map color_of w.palette)) (map bit w.flags), colors_wide, flags_wide)

  pub block_laid : (l m n : List ℕ) → m ≡ sets l 0 (front_of (block_with c size predictors tol w)) → n ≡ sets m 336 (replicate 4096 0) → n ≡ sets l 0 (flat_block (block_with c size predictors tol w))
  block_laid l m n a b =
      let f = front_of (block_with c size predictors tol w) in
      let z : 336 ≡ 0 + length f = omega (arith, front_wide) in
      b ∙ ap (λ (x : List ℕ). sets x 336 (replicate 4096 0)) a ∙ ap (λ (i : ℕ). sets (sets l 0 f) i (replicate 4096 0)) z ∙ sets_append f (replicate 4096 0) l 0 ∙ ap (sets l 0) (zeros-after c size predictors tol w)

-- ---- laying what there is room for

pub front-end : (l whole xs : List ℕ) (i n : ℕ) → length xs ≡ 336 → n ≡ min 336 (length l) → n ≤ i → sets l i (drop i xs) ≡ whole → l ≡ whole
front-end l whole xs i n w m h e =
    ⊎_elim (λ (q : i < 336). sym (past_end (drop i xs) l i (omega arith)) ∙ e) (λ (q : 336 ≤ i). (rw (rest_end xs i (omega arith)) at e)) (lt_or_le i 336)

pub front-next : (l xs : List ℕ) (i : ℕ) → i < length xs → sets (set l i (get_or xs i 0)) (i + 1) (drop (i + 1) xs) ≡ sets l i (drop i xs)
front-next l xs i h = rw (rest-next xs i 0 h, add-one i)

-- zeros from place i to the end
pub cells-next : (l : List ℕ) (i : ℕ) → i < 4432 → sets (set l i 0) (i + 1) (replicate (4432 - (i + 1)) 0) ≡ sets l i (replicate (4432 - i) 0)
cells-next l i h = let e : 4432 - i ≡ suc (4432 - (i + 1)) = omega arith in rw (e, add-one i)

pub cells-end : (l : List ℕ) (i n : ℕ) → n ≡ min 4432 (length l) → n ≤ i → sets l i (replicate (4432 - i) 0) ≡ l
cells-end l i n m h =
    ⊎_elim (λ (q : i < 4432). past_end (replicate (4432 - i) 0) l i (omega arith)) (λ (q : 4432 ≤ i). let e : 4432 - i ≡ 0 = omega arith in rw e) (lt_or_le i 4432)
