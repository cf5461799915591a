-- What the readers of numbers meet, and that a flat form is read back.
use Rattle.std.specs.Prelude.{◌≡◌, Bool, true, ℕ, zero, suc, ◌+◌, ◌-◌, ◌*◌, ◌/◌, ◌%◌, ◌≤◌, ◌<◌, min, length, get_or, set, take, drop, replicate}
use Rattle.std.proofs.Math.Path.{refl, ap}
use Rattle.std.proofs.Common.{sym, ◌∙◌, add_assoc, mod-eq_of_lt, length-append, get_or-append-add, ext_get_or}
use Rattle.std.proofs.Math.Bool.{false}
use mathlib.Core.List.{List, [], ◌∷◌, ◌++◌, map, append-nil}
use Rattle.std.proofs.Math.Nat.{min-eq_left, div-div-eq-div-mul}
use native.Mathlib.Omega.{arith}
use Rattle.std.proofs.Math.Dec.{eqb}
use Rattle.std.proofs.lemmas.List.{length-replicate, length-map, length-take, length-drop, get_or-take, get_or-drop, get_or-append_right, get_or-replicate, get_or_past}
use Rattle.std.proofs.Math.Logic.{⊎_elim}
use Rattle.std.proofs.Math.ListN.{get_or-append, get_or-map}
use Rattle.base.specs.Cells.{laid, laid_in, laid-length, laid_on_lem, laid_same}
use Rattle.base.specs.Pick.{lt_or_le}
use Rattle.h265.specs.Strings.{bit}
use Rattle.model.specs.declared.Color.{Color}
use Rattle.model.specs.declared.Levels.{Levels}
use Rattle.model.specs.declared.PaletteCu.{PaletteCu}
use Rattle.model.specs.declared.PalettePredictor.{PalettePredictor}
use Rattle.model.specs.Domain.{no_color}
use Rattle.model.specs.Whole.{no_levels}
use Rattle.flat.specs.Flat.{number, byte, each, color_at, levels_at, long_at, block_of, predictor_of, short, head_of, colors_of, levels_of, flat_block, flat_predictor}

-- ---- elements made from places

pub each_at_lem : {A : Type 0} (a d : A) (n : ℕ) (f : ℕ → A) (i : ℕ) → i < n → get_or (each a n f) i d ≡ f i
each_at_lem a d n f i h = laid_in f (replicate n a) 0 n i d (omega arith) (omega arith) (omega (arith, length-replicate n a))

pub each_by : {A : Type 0} (a : A) (n : ℕ) (f : ℕ → A) (xs : List A) → length xs ≡ n → ((i : ℕ) → i < n → f i ≡ get_or xs i a) → each a n f ≡ xs
each_by a n f xs e h =
    let k : length (each a n f) ≡ n = laid-length f (replicate n a) 0 n ∙ length-replicate n a in
    ext_get_or a (each a n f) xs (k ∙ sym e) (λ i m. let l : i < n = omega arith in each_at_lem a a n f i l ∙ h i l)

-- one turn of a loop that lays four places
pub laid-four : {A : Type 0} (f : ℕ → A) (l out : List A) (k : ℕ) (a b c d : A) → out ≡ laid f l 0 (4 * k) → a ≡ f (4 * k) → b ≡ f (4 * k + 1) → c ≡ f (4 * k + 2) → d ≡ f (4 * k + 3)
    → set (set (set (set out (4 * k) a) (4 * k + 1) b) (4 * k + 2) c) (4 * k + 3) d ≡ laid f l 0 (4 * (k + 1))
laid-four f l out k a b c d e ea eb ec ed =
    let i = 4 * k in
    let z₂ : i + 1 + 1 ≡ i + 2 = omega arith in
    let z₃ : i + 2 + 1 ≡ i + 3 = omega arith in
    let z₄ : i + 3 + 1 ≡ 4 * (k + 1) = omega arith in
    let o₁ = set out i a in
    let o₂ = set o₁ (i + 1) b in
    let o₃ = set o₂ (i + 2) c in
    let e₁ : o₁ ≡ laid f l 0 (i + 1) = laid_on_lem f l out i a e ea in
    let e₂ : o₂ ≡ laid f l 0 (i + 2) = laid_on_lem f l o₁ (i + 1) b e₁ eb ∙ ap (laid f l 0) z₂ in
    let e₃ : o₃ ≡ laid f l 0 (i + 3) = laid_on_lem f l o₂ (i + 2) c e₂ ec ∙ ap (laid f l 0) z₃ in
    laid_on_lem f l o₃ (i + 3) d e₃ ed ∙ ap (laid f l 0) z₄

padded_at : (l zs : List ℕ) (n m i : ℕ) → n ≡ min (length l) m → length (take n l) ≡ n → zs ≡ drop n (replicate {A = ℕ} m 0) → i < m → number l i ≡ get_or (take n l ++ zs) i 0
padded_at l zs n m i e f d h =
    ⊎_elim
    (λ (k : i < n). sym (get_or-append (take n l) zs 0 i (omega arith) ∙ get_or-take n l i 0 k))
    (λ (k : n ≤ i).
    let z : n + (i - n) ≡ i = omega arith in
    let q : get_or zs (i - n) 0 ≡ 0 = rw (d, get_or-drop n (replicate {A = ℕ} m 0) (i - n) 0, z) (get_or-replicate m i 0 0 h) in
    get_or_past l i 0 (omega arith) ∙ sym (get_or-append_right (take n l) zs n i 0 f k ∙ q))
    (lt_or_le i n)

-- the first n of a list, and zeros up to m
pub padded_is : (l : List ℕ) (n m : ℕ) → n ≡ min (length l) m → take n l ++ drop n (replicate m 0) ≡ each 0 m (number l)
padded_is l n m e =
    let zs = drop n (replicate {A = ℕ} m 0) in
    let f : length (take n l) ≡ n = omega (arith, length-take n l) in
    let g : length zs ≡ m - n = omega (arith, length-drop n (replicate {A = ℕ} m 0), length-replicate {A = ℕ} m 0) in
    sym (each_by 0 m (number l) (take n l ++ zs) (omega (arith, length-append (take n l) zs)) (λ i h. padded_at l zs n m i e f refl h))

-- ---- the block from its parts

module _ (l h : List ℕ) (e : h ≡ each 0 16 (number l)) where
  head_at : (i : ℕ) → i < 16 → get_or h i 0 ≡ number l i
  head_at i m = ap (λ (x : List ℕ). get_or x i 0) e ∙ each_at_lem 0 0 16 (number l) i m

  pub block_made : (palette : List Color) (reused : List Bool) (indices : List ℕ) (escapes : List Levels) (format luma chroma sse : ℕ) → palette ≡ each no_color 64 (λ i. color_at l (16 + 3 * i)) → reused ≡ each false 128 (λ i. eqb (number l (208 + i)) 1) → indices ≡ each 0 1024 (λ i. byte (number l (336 + i))) → escapes ≡ each no_levels 1024 (λ i. levels_at l (1360 + 3 * i)) → format ≡ byte (get_or h 1 0) → luma ≡ byte (get_or h 2 0) → chroma ≡ byte (get_or h 3 0) → sse ≡ get_or h 11 0 + 65536 * get_or h 12 0 + 4294967296 * get_or h 13 0 + 281474976710656 * get_or h 14 0 → ◌≡◌ {A = PaletteCu} (record { size = get_or h 0 0; chroma_idc = format; bd_luma = luma; bd_chroma = chroma; lossless = eqb (get_or h 4 0) 1; palette = palette; palette_size = get_or h 5 0; reused = reused; pred_size = get_or h 6 0; num_signaled = get_or h 7 0; escape_present = eqb (get_or h 8 0) 1; transpose = eqb (get_or h 9 0) 1; indices = indices; escapes = escapes; sse = sse; tolerance = get_or h 10 0 }) (block_of l)
  unfolding block_of long_at
  block_made palette reused indices escapes format luma chroma sse ep ef ei ee e1 e2 e3 es =
      rw (
        ep,
        ef,
        ei,
        ee,
        e1,
        e2,
        e3,
        es,
        head_at 0 (omega arith),
        head_at 1 (omega arith),
        head_at 2 (omega arith),
        head_at 3 (omega arith),
        head_at 4 (omega arith),
        head_at 5 (omega arith),
        head_at 6 (omega arith),
        head_at 7 (omega arith),
        head_at 8 (omega arith),
        head_at 9 (omega arith),
        head_at 10 (omega arith),
        head_at 11 (omega arith),
        head_at 12 (omega arith),
        head_at 13 (omega arith),
        head_at 14 (omega arith),
      )

-- ---- the places of a flat form

-- what stands before is passed over
skip : (before after : List ℕ) (n k : ℕ) → length before ≡ n → number (before ++ after) (n + k) ≡ number after k
skip before after n k e = rw (← e) (get_or-append-add before after k 0)

skip_color : (before after : List ℕ) (n k : ℕ) → length before ≡ n → color_at (before ++ after) (n + k) ≡ color_at after k
unfolding color_at
skip_color before after n k e = rw (add_assoc n k 1, add_assoc n k 2, skip before after n k e, skip before after n (k + 1) e, skip before after n (k + 2) e)

skip-levels : (before after : List ℕ) (n k : ℕ) → length before ≡ n → levels_at (before ++ after) (n + k) ≡ levels_at after k
unfolding levels_at
skip-levels before after n k e = rw (add_assoc n k 1, add_assoc n k 2, skip before after n k e, skip before after n (k + 1) e, skip before after n (k + 2) e)

thrice : (i : ℕ) → 3 * suc i ≡ suc (suc (suc (3 * i)))
thrice i = omega arith

thrice-on : (i j : ℕ) → 3 * suc i + j ≡ suc (suc (suc (3 * i + j)))
thrice-on i j = omega arith

pub colors_length : (cs : List Color) → length (colors_of cs) ≡ 3 * length cs
unfolding colors_of
colors_length [] = refl
colors_length (c ∷ cs) = rw (thrice (length cs), colors_length cs)

pub levels-length : (ls : List Levels) → length (levels_of ls) ≡ 3 * length ls
unfolding levels_of
levels-length [] = refl
levels-length (l ∷ ls) = rw (thrice (length ls), levels-length ls)

colors_at : (cs : List Color) (after : List ℕ) (i : ℕ) → i < length cs → color_at (colors_of cs ++ after) (3 * i) ≡ get_or cs i no_color
unfolding colors_of color_at
colors_at [] after i h = absurd (omega arith)
colors_at (c ∷ cs) after zero h = refl
colors_at (c ∷ cs) after (suc i) h = rw (thrice-on i 1, thrice-on i 2, thrice i) (colors_at cs after i (omega arith))

levels-at : (ls : List Levels) (after : List ℕ) (i : ℕ) → i < length ls → levels_at (levels_of ls ++ after) (3 * i) ≡ get_or ls i no_levels
unfolding levels_of levels_at
levels-at [] after i h = absurd (omega arith)
levels-at (l ∷ ls) after zero h = refl
levels-at (l ∷ ls) after (suc i) h = rw (thrice-on i 1, thrice-on i 2, thrice i) (levels-at ls after i (omega arith))

flag_bit : (b : Bool) → eqb (bit b) 1 ≡ b
flag_bit true = refl
flag_bit false = refl

-- four parts of 16 bits make the number
joined : (x a p b q c r : ℕ) → a + 65536 * p ≡ x → b + 65536 * q ≡ p → c + 65536 * r ≡ q → a + 65536 * b + 4294967296 * c + 281474976710656 * r ≡ x
joined x a p b q c r d e f = omega arith

part : (x : ℕ) → x % 65536 + 65536 * (x / 65536) ≡ x
part x = omega arith

parts : (x : ℕ) → x < 18446744073709551616 → x % 65536 + 65536 * (x / 65536 % 65536) + 4294967296 * (x / 4294967296 % 65536) + 281474976710656 * (x / 281474976710656 % 65536) ≡ x
parts x h =
    let b : x / 4294967296 ≡ x / 65536 / 65536 = sym (div-div-eq-div-mul x 65536 65536) in
    let c : x / 281474976710656 ≡ x / 4294967296 / 65536 = sym (div-div-eq-div-mul x 4294967296 65536) in
    let l : x / 281474976710656 < 65536 = omega arith in
    rw (mod-eq_of_lt l, c, b) (joined x _ (x / 65536) _ (x / 65536 / 65536) _ (x / 65536 / 65536 / 65536) (part x) (part (x / 65536)) (part (x / 65536 / 65536)))

-- ---- a flat form is read back

-- what a block's numbers must be to have a place in its flat form, as those of any record that the code has do, but for the sizes
pub record Fits (cu : PaletteCu) : Type 0 where
  pub size : cu.size ≤ 65535
  pub format : cu.chroma_idc ≤ 255
  pub luma : cu.bd_luma ≤ 255
  pub chroma : cu.bd_chroma ≤ 255
  pub entries : cu.palette_size ≤ 65535
  pub flags : cu.pred_size ≤ 65535
  pub signaled : cu.num_signaled ≤ 65535
  pub tolerance : cu.tolerance ≤ 65535
  pub figure : cu.sse < 18446744073709551616
  pub palette_length : length cu.palette ≡ 64
  pub reused_length : length cu.reused ≡ 128
  pub indices_length : length cu.indices ≡ 1024
  pub escapes_length : length cu.escapes ≡ 1024
  pub index : (i : ℕ) → i < 1024 → get_or cu.indices i 0 ≤ 255

module _ (cu : PaletteCu) (fits : Fits cu) where
  abbrev tail : List ℕ
  tail = map bit cu.reused ++ (cu.indices ++ levels_of cu.escapes)

  flags_length : length (map bit cu.reused) ≡ 128
  flags_length = length-map cu.reused bit ∙ fits.reused_length

  palette_length : length (colors_of cu.palette) ≡ 192
  palette_length = colors_length cu.palette ∙ ap (λ (n : ℕ). 3 * n) fits.palette_length

  -- past the head, and past the palette
  past : (k : ℕ) → number (flat_block cu) (208 + k) ≡ number tail k
  unfolding flat_block head_of
  past k =
      let e : 208 + k ≡ 16 + (192 + k) = omega arith in
      rw e (skip (head_of cu) (colors_of cu.palette ++ tail) 16 (192 + k) refl ∙ skip (colors_of cu.palette) tail 192 k palette_length)

  back_palette : each no_color 64 (λ i. color_at (flat_block cu) (16 + 3 * i)) ≡ cu.palette
  unfolding flat_block head_of
  back_palette =
      each_by no_color 64 _ cu.palette fits.palette_length (λ i h.
      skip_color (head_of cu) (colors_of cu.palette ++ tail) 16 (3 * i) refl ∙ colors_at cu.palette tail i (omega (arith, fits.palette_length)))

  back_flags : each false 128 (λ i. eqb (number (flat_block cu) (208 + i)) 1) ≡ cu.reused
  back_flags =
      each_by false 128 _ cu.reused fits.reused_length (λ i h.
      let e : number tail i ≡ bit (get_or cu.reused i false) =
      get_or-append (map bit cu.reused) (cu.indices ++ levels_of cu.escapes) 0 i (omega (arith, flags_length)) ∙ get_or-map bit cu.reused i false
      in
      rw (past i, e) (flag_bit (get_or cu.reused i false)))

  back_indices : each 0 1024 (λ i. byte (number (flat_block cu) (336 + i))) ≡ cu.indices
  back_indices =
      each_by 0 1024 _ cu.indices fits.indices_length (λ i h.
      let p : 336 + i ≡ 208 + (128 + i) = omega arith in
      let e : number tail (128 + i) ≡ get_or cu.indices i 0 =
      skip (map bit cu.reused) (cu.indices ++ levels_of cu.escapes) 128 i flags_length ∙ get_or-append cu.indices (levels_of cu.escapes) 0 i (omega (arith, fits.indices_length))
      in
      rw (p, past (128 + i), e) (min-eq_left (fits.index i h)))

  back_levels : each no_levels 1024 (λ i. levels_at (flat_block cu) (1360 + 3 * i)) ≡ cu.escapes
  unfolding flat_block head_of
  back_levels =
      each_by no_levels 1024 _ cu.escapes fits.escapes_length (λ i h.
      let p : 1360 + 3 * i ≡ 16 + (192 + (128 + (1024 + 3 * i))) = omega arith in
      rw (p, ← append-nil (levels_of cu.escapes))
      (skip-levels (head_of cu) _ 16 _ refl ∙ skip-levels (colors_of cu.palette) _ 192 _ palette_length ∙ skip-levels (map bit cu.reused) _ 128 _ flags_length
      ∙ skip-levels cu.indices _ 1024 _ fits.indices_length ∙ levels-at cu.escapes [] i (omega (arith, fits.escapes_length))))

  back_figure : long_at (flat_block cu) 11 ≡ cu.sse
  unfolding flat_block head_of long_at
  back_figure = parts cu.sse fits.figure

  -- the numbers of the head
  at_size : number (flat_block cu) 0 ≡ cu.size
  unfolding flat_block head_of
  at_size = min-eq_left fits.size

  at_format : byte (number (flat_block cu) 1) ≡ cu.chroma_idc
  unfolding flat_block head_of
  at_format = min-eq_left fits.format

  at_luma : byte (number (flat_block cu) 2) ≡ cu.bd_luma
  unfolding flat_block head_of
  at_luma = min-eq_left fits.luma

  at_chroma : byte (number (flat_block cu) 3) ≡ cu.bd_chroma
  unfolding flat_block head_of
  at_chroma = min-eq_left fits.chroma

  at_lossless : eqb (number (flat_block cu) 4) 1 ≡ cu.lossless
  unfolding flat_block head_of
  at_lossless = flag_bit cu.lossless

  at_entries : number (flat_block cu) 5 ≡ cu.palette_size
  unfolding flat_block head_of
  at_entries = min-eq_left fits.entries

  at_flags : number (flat_block cu) 6 ≡ cu.pred_size
  unfolding flat_block head_of
  at_flags = min-eq_left fits.flags

  at_signaled : number (flat_block cu) 7 ≡ cu.num_signaled
  unfolding flat_block head_of
  at_signaled = min-eq_left fits.signaled

  at_escape : eqb (number (flat_block cu) 8) 1 ≡ cu.escape_present
  unfolding flat_block head_of
  at_escape = flag_bit cu.escape_present

  at_transpose : eqb (number (flat_block cu) 9) 1 ≡ cu.transpose
  unfolding flat_block head_of
  at_transpose = flag_bit cu.transpose

  at_tolerance : number (flat_block cu) 10 ≡ cu.tolerance
  unfolding flat_block head_of
  at_tolerance = min-eq_left fits.tolerance

  pub block_flat : block_of (flat_block cu) ≡ cu
  unfolding block_of
  block_flat =
      rw (
        back_palette,
        back_flags,
        back_indices,
        back_levels,
        back_figure,
        at_size,
        at_format,
        at_luma,
        at_chroma,
        at_lossless,
        at_entries,
        at_flags,
        at_signaled,
        at_escape,
        at_transpose,
        at_tolerance,
      )

pub predictor_flat : (p : PalettePredictor) → p.size ≤ 65535 → length p.entries ≡ 128 → predictor_of (flat_predictor p) ≡ p
unfolding predictor_of flat_predictor
predictor_flat p h e =
    let s = short p.size in
    let z : s ≡ p.size = min-eq_left h in
    let b : each no_color 128 (λ i. color_at (s ∷ colors_of p.entries) (1 + 3 * i)) ≡ p.entries =
    each_by no_color 128 _ p.entries e (λ i m.
    rw (← append-nil (colors_of p.entries)) (skip_color (s ∷ []) (colors_of p.entries ++ []) 1 (3 * i) refl ∙ colors_at p.entries [] i (omega arith)))
    in
    rw (b, z)

-- ---- a list that is too short, with zeros after it

pub each_same : {A : Type 0} (a : A) (n : ℕ) (f g : ℕ → A) → ((i : ℕ) → i < n → f i ≡ g i) → each a n f ≡ each a n g
each_same a n f g h = laid_same f g (replicate n a) 0 n (λ j m. h (0 + j) (omega arith))

module _ (l : List ℕ) where
  filled_at : (i : ℕ) → i < 4432 → number (each 0 4432 (number l)) i ≡ number l i
  filled_at i h = each_at_lem 0 0 4432 (number l) i h

  filled_color : (i : ℕ) → i < 64 → color_at (each 0 4432 (number l)) (16 + 3 * i) ≡ color_at l (16 + 3 * i)
  unfolding color_at
  filled_color i h = rw (filled_at (16 + 3 * i) (omega arith), filled_at (16 + 3 * i + 1) (omega arith), filled_at (16 + 3 * i + 2) (omega arith))

  filled-levels : (i : ℕ) → i < 1024 → levels_at (each 0 4432 (number l)) (1360 + 3 * i) ≡ levels_at l (1360 + 3 * i)
  unfolding levels_at
  filled-levels i h = rw (filled_at (1360 + 3 * i) (omega arith), filled_at (1360 + 3 * i + 1) (omega arith), filled_at (1360 + 3 * i + 2) (omega arith))

  pub filled_block : block_of (each 0 4432 (number l)) ≡ block_of l
  unfolding block_of long_at
  filled_block =
      let z = each 0 4432 (number l) in
      rw (
        each_same no_color 64 (λ i. color_at z (16 + 3 * i)) (λ i. color_at l (16 + 3 * i)) filled_color,
        each_same false 128 (λ i. eqb (number z (208 + i)) 1) (λ i. eqb (number l (208 + i)) 1) (λ i h. ap (λ (x : ℕ). eqb x 1) (filled_at (208 + i) (omega arith))),
        each_same 0 1024 (λ i. byte (number z (336 + i))) (λ i. byte (number l (336 + i))) (λ i h. ap byte (filled_at (336 + i) (omega arith))),
        each_same no_levels 1024 (λ i. levels_at z (1360 + 3 * i)) (λ i. levels_at l (1360 + 3 * i)) filled-levels,
        filled_at 0 (omega arith),
        filled_at 1 (omega arith),
        filled_at 2 (omega arith),
        filled_at 3 (omega arith),
        filled_at 4 (omega arith),
        filled_at 5 (omega arith),
        filled_at 6 (omega arith),
        filled_at 7 (omega arith),
        filled_at 8 (omega arith),
        filled_at 9 (omega arith),
        filled_at 10 (omega arith),
        filled_at 11 (omega arith),
        filled_at (11 + 1) (omega arith),
        filled_at (11 + 2) (omega arith),
        filled_at (11 + 3) (omega arith),
      )
