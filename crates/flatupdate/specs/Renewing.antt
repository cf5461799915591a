-- A predictor that is renewed on its numbers, three to an entry.
use Rattle.std.specs.Prelude.{◌≡◌, Bool, true, set, replicate}
use Rattle.std.proofs.Math.Path.{refl, ap, sym}
use Rattle.std.proofs.Common.{◌∙◌, ⊎_elim, length-set, length-take, drop-cons, take-take, take_all, take_at, length-take-le, get_or-take}
use Rattle.std.proofs.Math.Bool.{false}
use mathlib.Core.List.{List, [], ◌∷◌, ◌++◌, append_assoc, append-nil}
use Prim.Native.Nat.{ℕ, zero, suc, ◌+◌, ◌*◌, ◌-◌, ◌≤◌, ◌<◌, min}
use Rattle.std.proofs.Math.Nat.{min-eq_left, min-eq_right}
use native.Mathlib.Omega.{arith}
use borrow.Author.Tests.{eq-eqb, eqb-true, ne_eqb}
use Rattle.std.proofs.Math.Dec.{eqb}
use Rattle.std.proofs.Math.ListN.{length, take, drop, get_or, length-append, length-replicate, length-drop}
use Rattle.std.proofs.Math.Seq.{sets, length-sets}
use Rattle.std.proofs.lemmas.List.Edits.{sets-eq}
use Rattle.std.proofs.lemmas.List.{set_comm}
use Rattle.base.specs.Cells.{laid-length}
use Rattle.base.specs.Laid.{sets_append}
use Rattle.base.specs.Pick.{pick, either, true_false, lt_or_le}
use Rattle.h265.specs.Predictor.{unreused, updated, updated-length, unreused-at, unreused-none}
use Rattle.flat.specs.Flat.{number, color_at, block_of, predictor_of, colors_of, flat_predictor}
use Rattle.flat.specs.FlatLaws.{each_at_lem, colors_length}
use Rattle.flatready.specs.Ready.{Ready}
use Rattle.model.specs.declared.Color.{Color}
use Rattle.model.specs.declared.PalettePredictor.{PalettePredictor}
use Rattle.model.specs.Domain.{no_color}
use Rattle.predictor.specs.Update.{padded, renewed_of}

-- the predictor after a block, of lists that are whole and refused nothing
abbrev pub after_of : List ℕ → List ℕ → ℕ → PalettePredictor
after_of p b limit = renewed_of limit (take (block_of b).palette_size (block_of b).palette) (take (block_of b).pred_size (block_of b).reused) (take (predictor_of p).size (predictor_of p).entries)

-- ---- counts

room-past : (limit n first : ℕ) → first ≡ min n limit → limit - n ≡ limit - first
room-past limit n first e = omega arith

room-left : (limit first u t k : ℕ) → t ≡ min (limit - first) u → k ≡ first + t → limit - first - u ≡ limit - k
room-left limit first u t k e h = omega arith

with_flags : (count room size flags : ℕ) → room ≡ 128 → size ≤ 128 → flags ≡ min count size → min (min count room) size ≡ flags
with_flags count room size flags e h k = omega arith

-- ---- lists

module _ {A : Type 0} where
  take-append : (n : ℕ) (xs ys : List A) → take n (xs ++ ys) ≡ take n xs ++ take (n - length xs) ys
  take-append zero [] ys = refl
  take-append zero (x ∷ xs) ys = let e : 0 - suc (length xs) ≡ 0 = omega arith in rw e
  take-append (suc n) [] ys = let e : suc n - 0 ≡ suc n = omega arith in rw e
  take-append (suc n) (x ∷ xs) ys = let e : suc n - suc (length xs) ≡ n - length xs = omega arith in rw e (ap (λ (l : List A). x ∷ l) (take-append n xs ys))

  take_min : (n : ℕ) (xs : List A) → take (min (length xs) n) xs ≡ take n xs
  take_min n xs =
      ⊎_elim
      (λ (l : n < length xs). let m : n ≤ length xs = omega arith in rw (min-eq_right m))
      (λ (l : length xs ≤ n). rw (min-eq_left l) (take_all (length xs) xs (omega arith) ∙ sym (take_all n xs l)))
      (lt_or_le n (length xs))

  drop-take : (f m n : ℕ) (xs : List A) → f + m ≤ n → take m (drop f (take n xs)) ≡ take m (drop f xs)
  drop-take zero m n xs h = take-take m n xs (omega arith)
  drop-take (suc f) m zero xs h = absurd (omega arith)
  drop-take (suc f) m (suc n) [] h = refl
  drop-take (suc f) m (suc n) (x ∷ xs) h = drop-take f m n xs (omega arith)

  -- the entries that have flags, and those past them
  unreused-split : (f : ℕ) (fs : List Bool) (old : List A) → f ≡ min (length fs) (length old) → unreused fs old ≡ unreused (take f fs) (take f old) ++ drop f old
  unfolding unreused
  unreused-split zero [] old e = refl
  unreused-split (suc f) [] old e = absurd (omega arith)
  unreused-split zero (b ∷ fs) [] e = refl
  unreused-split zero (b ∷ fs) (x ∷ old) e = absurd (omega arith)
  unreused-split (suc f) (b ∷ fs) [] e = absurd (omega arith)
  unreused-split (suc f) (true ∷ fs) (x ∷ old) e = unreused-split f fs old (omega arith)
  unreused-split (suc f) (false ∷ fs) (x ∷ old) e = ap (λ (l : List A). x ∷ l) (unreused-split f fs old (omega arith))

  -- three parts, each cut to what room is left, make the whole
  parts : (limit first flags k more : ℕ) (palette : List A) (fs : List Bool) (old : List A) → first ≡ min (length palette) limit → flags ≡ min (length fs) (length old) → k ≡ first + length (take (limit - first) (unreused (take flags fs) (take flags old))) → more ≡ min (length old - flags) (limit - k)
      → take first palette ++ (take (limit - first) (unreused (take flags fs) (take flags old)) ++ take more (drop flags old)) ≡ updated limit palette fs old
  unfolding updated
  parts limit first flags k more palette fs old e₁ e₂ e₃ e₄ =
      let u = unreused (take flags fs) (take flags old) in
      let z₁ : limit - length palette ≡ limit - first = room-past limit (length palette) first e₁ in
      let z₂ : limit - first - length u ≡ limit - k = room-left limit first (length u) _ k (length-take (limit - first) u) e₃ in
      let z₃ : length (drop flags old) ≡ length old - flags = length-drop flags old in
      let a : take first palette ≡ take limit palette = rw e₁ (take_min limit palette) in
      let c : take more (drop flags old) ≡ take (limit - k) (drop flags old) = rw (e₄, ← z₃) (take_min (limit - k) (drop flags old)) in
      sym (
      rw (unreused-split flags fs old e₂)
      (take-append limit palette (u ++ drop flags old)
      ∙ rw (z₁, ← a) (ap (λ (l : List A). take first palette ++ l) (take-append (limit - first) u (drop flags old) ∙ rw (z₂, ← c))))
      )

-- ---- numbers and entries

thrice : (k : ℕ) → 3 * suc k ≡ suc (suc (suc (3 * k)))
thrice k = omega arith

thrice-on : (k j : ℕ) → 3 * suc k + j ≡ suc (suc (suc (3 * k + j)))
thrice-on k j = omega arith

colors_append : (cs ds : List Color) → colors_of (cs ++ ds) ≡ colors_of cs ++ colors_of ds
unfolding colors_of
colors_append [] ds = refl
colors_append (c ∷ cs) ds = ap (λ (l : List ℕ). c.y ∷ c.cb ∷ c.cr ∷ l) (colors_append cs ds)

colors_none : (n : ℕ) → colors_of (replicate n no_color) ≡ replicate (3 * n) 0
unfolding colors_of
colors_none zero = refl
colors_none (suc n) = rw (thrice n, colors_none n)

colors_take : (n : ℕ) (cs : List Color) → take (3 * n) (colors_of cs) ≡ colors_of (take n cs)
unfolding colors_of
colors_take zero cs = refl
colors_take (suc n) [] = rw (thrice n)
colors_take (suc n) (c ∷ cs) = rw (thrice n) (ap (λ (l : List ℕ). c.y ∷ c.cb ∷ c.cr ∷ l) (colors_take n cs))

colors_drop : (n : ℕ) (cs : List Color) → drop (3 * n) (colors_of cs) ≡ colors_of (drop n cs)
unfolding colors_of
colors_drop zero cs = refl
colors_drop (suc n) [] = rw (thrice n)
colors_drop (suc n) (c ∷ cs) = rw (thrice n) (colors_drop n cs)

color_at_lem : (cs : List Color) (i : ℕ) → i < length cs → (get_or (colors_of cs) (3 * i) 0 ≡ (get_or cs i no_color).y) × (get_or (colors_of cs) (3 * i + 1) 0 ≡ (get_or cs i no_color).cb) × (get_or (colors_of cs) (3 * i + 2) 0 ≡ (get_or cs i no_color).cr)
unfolding colors_of
color_at_lem [] i h = absurd (omega arith)
color_at_lem (c ∷ cs) zero h = (refl, refl, refl)
color_at_lem (c ∷ cs) (suc i) h = rw (thrice-on i 1, thrice-on i 2, thrice i) (color_at_lem cs i (omega arith))

-- entries that a list's numbers are, from a place on
colors_of_lem : (cs : List Color) (l : List ℕ) (from : ℕ) → from + 3 * length cs ≤ length l → ((i : ℕ) → i < length cs → get_or cs i no_color ≡ color_at l (from + 3 * i)) → take (3 * length cs) (drop from l) ≡ colors_of cs
unfolding colors_of color_at
colors_of_lem [] l from h e = refl
colors_of_lem (c ∷ cs) l from h e =
    let z : from + 3 * 0 ≡ from = omega arith in
    let a : c ≡ color_at l from = e 0 (omega arith) ∙ ap (color_at l) z in
    let s₁ : suc from ≡ from + 1 = omega arith in
    let s₂ : suc (from + 1) ≡ from + 2 = omega arith in
    let s₃ : suc (from + 2) ≡ from + 3 = omega arith in
    let d : drop from l ≡ number l from ∷ number l (from + 1) ∷ number l (from + 2) ∷ drop (from + 3) l =
    drop-cons l from 0 (omega arith)
    ∙ ap (λ (t : List ℕ). number l from ∷ t) (rw (s₁, drop-cons l (from + 1) 0 (omega arith), s₂, drop-cons l (from + 2) 0 (omega arith), s₃))
    in
    let r = colors_of_lem cs l (from + 3) (omega arith) (λ i m. let w : from + 3 * suc i ≡ from + 3 + 3 * i = omega arith in e (suc i) (omega arith) ∙ ap (color_at l) w) in
    rw (thrice (length cs), d, a) (ap (λ (t : List ℕ). number l from ∷ number l (from + 1) ∷ number l (from + 2) ∷ t) r)

-- ---- the records' lists

module _ (b : List ℕ) where
  palette_long : length (block_of b).palette ≡ 64
  unfolding block_of
  palette_long = laid-length _ _ 0 64 ∙ length-replicate 64 no_color

  palette_at_lem : (i : ℕ) → i < 64 → get_or (block_of b).palette i no_color ≡ color_at b (16 + 3 * i)
  unfolding block_of
  palette_at_lem i h = each_at_lem no_color no_color 64 (λ (j : ℕ). color_at b (16 + 3 * j)) i h

  flags_long : length (block_of b).reused ≡ 128
  unfolding block_of
  flags_long = laid-length _ _ 0 128 ∙ length-replicate 128 false

  flag_at : (i : ℕ) → i < 128 → get_or (block_of b).reused i false ≡ eqb (number b (208 + i)) 1
  unfolding block_of
  flag_at i h = each_at_lem false false 128 (λ (j : ℕ). eqb (number b (208 + j)) 1) i h

  palette_first : (n : ℕ) → n ≤ 64 → 4432 ≤ length b → take (3 * n) (drop 16 b) ≡ colors_of (take n (block_of b).palette)
  palette_first n h l =
      let s : length (take n (block_of b).palette) ≡ n = length-take-le n (block_of b).palette (omega (arith, palette_long)) in
      rw s at (colors_of_lem (take n (block_of b).palette) b 16 (omega arith) (λ i m. get_or-take n (block_of b).palette i no_color (omega arith) ∙ palette_at_lem i (omega arith)))

module _ (p : List ℕ) where
  entries-long : length (predictor_of p).entries ≡ 128
  unfolding predictor_of
  entries-long = laid-length _ _ 0 128 ∙ length-replicate 128 no_color

  entry-at : (i : ℕ) → i < 128 → get_or (predictor_of p).entries i no_color ≡ color_at p (1 + 3 * i)
  unfolding predictor_of
  entry-at i h = each_at_lem no_color no_color 128 (λ (j : ℕ). color_at p (1 + 3 * j)) i h

  entries_are : 385 ≤ length p → take 384 (drop 1 p) ≡ colors_of (predictor_of p).entries
  entries_are l = rw entries-long at (colors_of_lem (predictor_of p).entries p 1 (omega (arith, entries-long)) (λ i m. entry-at i (omega (arith, entries-long))))

-- ---- one run of stores

pub two-long : (l : List ℕ) (i j x y : ℕ) → length (set (set l i x) j y) ≡ length l
two-long l i j x y = length-set (set l i x) j y ∙ length-set l i x

pub three-long : (l : List ℕ) (i j k x y z : ℕ) → length (set (set (set l i x) j y) k z) ≡ length l
three-long l i j k x y z = length-set (set (set l i x) j y) k z ∙ two-long l i j x y

-- ---- the old entries that have flags

-- those that are laid
abbrev pub kept_of : List ℕ → ℕ → ℕ → ℕ → List Color → List Color
kept_of b first flags limit cs = take (limit - first) (unreused (take flags (block_of b).reused) (take flags cs))

-- k entries stand when those are laid after the first ones on l
pub record Kept (l old b : List ℕ) (first flags limit k : ℕ) (after : List ℕ) : Type 0 where
  pub most : k ≤ limit
  pub long : length after ≡ length l
  pub count : (cs : List Color) → old ≡ colors_of cs → k ≡ first + length (kept_of b first flags limit cs)
  pub is : (cs : List Color) → old ≡ colors_of cs → after ≡ sets l (1 + 3 * first) (colors_of (kept_of b first flags limit cs))

-- old entry j is laid as entry k where its flag is off
pub record Stepped (list old b : List ℕ) (k j r : ℕ) (after : List ℕ) : Type 0 where
  pub passed : number b (208 + j) ≡ 1 → (r ≡ k) × (after ≡ list)
  pub kept : (number b (208 + j) ≡ 1 → ⊥) → (r ≡ k + 1) × (after ≡ set (set (set list (1 + 3 * k) (get_or old (3 * j) 0)) (1 + 3 * k + 1) (get_or old (3 * j + 1) 0)) (1 + 3 * k + 2) (get_or old (3 * j + 2) 0))
  pub long : length after ≡ length list
  pub most : r ≤ k + 1

-- at old entry j: what is laid and what is to follow make the whole
pub record Keeping (l b : List ℕ) (first flags limit : ℕ) (cs : List Color) (k j : ℕ) (list : List ℕ) : Type 0 where
  pub laid : List Color
  pub count : k ≡ first + length laid
  pub is : list ≡ sets l (1 + 3 * first) (colors_of laid)
  pub makes : take (limit - first) (laid ++ unreused (drop j (take flags (block_of b).reused)) (drop j (take flags cs))) ≡ kept_of b first flags limit cs

module _ (l old b : List ℕ) (first flags limit : ℕ) (few : flags ≤ 128) (long : 384 ≤ length old) (cs : List Color) (are : old ≡ colors_of cs) where
  many : 128 ≤ length cs
  many = omega (arith, colors_length cs, ap length are)

  pub keeping_start : Keeping l b first flags limit cs first 0 l
  unfolding colors_of
  keeping_start = record { laid = []; count = omega arith; is = refl; makes = refl }

  module _ (k j : ℕ) (list : List ℕ) (f : Keeping l b first flags limit cs k j list) where
    next : j < flags → unreused (drop j (take flags (block_of b).reused)) (drop j (take flags cs)) ≡ pick (eqb (number b (208 + j)) 1) (unreused (drop (j + 1) (take flags (block_of b).reused)) (drop (j + 1) (take flags cs))) (get_or cs j no_color ∷ unreused (drop (j + 1) (take flags (block_of b).reused)) (drop (j + 1) (take flags cs)))
    next h =
        let g : get_or (take flags (block_of b).reused) j false ≡ eqb (number b (208 + j)) 1 = get_or-take flags (block_of b).reused j false h ∙ flag_at b j (omega arith) in
        let s : length (take flags cs) ≡ flags = length-take-le flags cs (omega (arith, many)) in
        rw (← g, ← get_or-take flags cs j no_color h) (unreused-at (take flags (block_of b).reused) j (take flags cs) no_color (omega arith))

    pub keeping_passed : j < flags → number b (208 + j) ≡ 1 → Keeping l b first flags limit cs k (j + 1) list
    keeping_passed h e = record { laid = f.laid; count = f.count; is = f.is; makes = rw (next h, eq-eqb _ _ e) at f.makes }

    pub keeping_kept : j < flags → (number b (208 + j) ≡ 1 → ⊥) → Keeping l b first flags limit cs (k + 1) (j + 1) (set (set (set list (1 + 3 * k) (get_or old (3 * j) 0)) (1 + 3 * k + 1) (get_or old (3 * j + 1) 0)) (1 + 3 * k + 2) (get_or old (3 * j + 2) 0))
    unfolding colors_of
    keeping_kept h e =
        let c = get_or cs j no_color in
        let at = color_at_lem cs j (omega (arith, many)) in
        let z : 1 + 3 * k ≡ 1 + 3 * first + length (colors_of f.laid) = omega (arith, f.count, colors_length f.laid) in
        let s₁ : 1 + 3 * k + 1 ≡ suc (1 + 3 * k) = omega arith in
        let s₂ : 1 + 3 * k + 2 ≡ suc (suc (1 + 3 * k)) = omega arith in
        record {
          laid = f.laid ++ (c ∷ []);
          count = rw length-append (omega (arith, f.count));
          is =
              rw (are, at.0, at.1, at.2, s₁, s₂, f.is, z)
              (sets_append (colors_of f.laid) (c.y ∷ c.cb ∷ c.cr ∷ []) l (1 + 3 * first)
              ∙ ap (sets l (1 + 3 * first)) (sym (colors_append f.laid (c ∷ []))));
          makes = rw append_assoc (rw (next h, ne_eqb _ _ e) at f.makes);
        }

    -- those that are laid are all
    done : f.laid ≡ kept_of b first flags limit cs → (k ≡ first + length (kept_of b first flags limit cs)) × (list ≡ sets l (1 + 3 * first) (colors_of (kept_of b first flags limit cs)))
    done e = rw (← e) (f.count, f.is)

    pub keeping_full : first ≤ limit → limit ≤ k → k ≤ limit → (k ≡ first + length (kept_of b first flags limit cs)) × (list ≡ sets l (1 + 3 * first) (colors_of (kept_of b first flags limit cs)))
    keeping_full o h m =
        let s : length f.laid ≡ limit - first = omega (arith, f.count) in
        done (sym (take_at f.laid _ (limit - first) s) ∙ f.makes)

    pub keeping_end : flags ≤ j → k ≤ limit → (k ≡ first + length (kept_of b first flags limit cs)) × (list ≡ sets l (1 + 3 * first) (colors_of (kept_of b first flags limit cs)))
    keeping_end h m =
        let s : length f.laid ≤ limit - first = omega (arith, f.count) in
        let t : length (take flags cs) ≤ j = omega (arith, length-take-le flags cs (omega (arith, many))) in
        done (sym (take_all (limit - first) f.laid s) ∙ rw (unreused-none (take flags (block_of b).reused) j (take flags cs) t, append-nil) at f.makes)

    pub keeping_step : (r : ℕ) (after : List ℕ) → j < flags → Stepped list old b k j r after → Keeping l b first flags limit cs r (j + 1) after
    keeping_step r after h s =
        either (eqb (number b (208 + j)) 1)
        (λ e.
        let y : number b (208 + j) ≡ 1 = eqb-true _ _ e in
        rw ((s.passed y).0, (s.passed y).1) (keeping_passed h y))
        (λ e.
        let n : number b (208 + j) ≡ 1 → ⊥ = λ y. true_false (sym (eq-eqb _ _ y) ∙ e) in
        rw ((s.kept n).0, (s.kept n).1) (keeping_kept h n))

-- n old entries from j on are laid so, whatever the entries are to make
pub record Walked (list old b : List ℕ) (k j n r : ℕ) (after : List ℕ) : Type 0 where
  pub long : length after ≡ length list
  pub most : r ≤ k + n
  pub on : (l : List ℕ) (first flags limit : ℕ) (cs : List Color) → flags ≤ 128 → 384 ≤ length old → old ≡ colors_of cs → j + n ≤ flags → Keeping l b first flags limit cs k j list → Keeping l b first flags limit cs r (j + n) after

module _ (list old b : List ℕ) (k j : ℕ) where
  pub walked_one : (r : ℕ) (after : List ℕ) → Stepped list old b k j r after → Walked list old b k j 1 r after
  walked_one r after s = record {
    long = s.long;
    most = s.most;
    on = λ l first flags limit cs few long e h f. keeping_step l old b first flags limit few long cs e k j list f r after (omega arith) s;
  }

  -- one more
  pub walked_next : (n r q : ℕ) (mid after : List ℕ) → Walked list old b k j n r mid → Stepped mid old b r (j + n) q after → Walked list old b k j (n + 1) q after
  walked_next n r q mid after w s = record {
    long = s.long ∙ w.long;
    most = omega (arith, w.most, s.most);
    on = λ l first flags limit cs few long e h f.
        let z : j + n + 1 ≡ j + (n + 1) = omega arith in
        rw z at (keeping_step l old b first flags limit few long cs e r (j + n) mid (w.on l first flags limit cs few long e (omega arith) f) q after (omega arith) s);
  }

-- ---- the whole

-- entries after entries
on : (p : List ℕ) (cs ds : List Color) (k : ℕ) → k ≡ length cs → sets (sets p 1 (colors_of cs)) (1 + 3 * k) (colors_of ds) ≡ sets p 1 (colors_of (cs ++ ds))
on p cs ds k e =
    let z : 1 + 3 * k ≡ 1 + length (colors_of cs) = omega (arith, colors_length cs) in
    rw z (sets_append (colors_of cs) (colors_of ds) p 1) ∙ ap (sets p 1) (sym (colors_append cs ds))

set_first : (xs l : List ℕ) (i s : ℕ) → set (sets l (suc i) xs) 0 s ≡ sets (set l 0 s) (suc i) xs
set_first [] l i s = refl
set_first (x ∷ xs) l i s = set_first xs (set l (suc i) x) (suc i) s ∙ ap (λ (m : List ℕ). sets m (suc (suc i)) xs) (set_comm l (suc i) 0 x s (λ e. omega arith))

-- a size, its entries and none after them
laid-whole : (p : List ℕ) (cs : List Color) → length cs ≤ 128 → sets (set (sets p 1 (colors_of cs)) 0 (length cs)) (1 + 3 * length cs) (replicate (384 - 3 * length cs) 0) ≡ sets p 0 (length cs ∷ colors_of (padded 128 cs))
unfolding padded
laid-whole p cs h =
    let z : 1 + 3 * length cs ≡ 1 + length (colors_of cs) = omega (arith, colors_length cs) in
    let n : 384 - 3 * length cs ≡ 3 * (128 - length cs) = omega arith in
    let q : replicate (384 - 3 * length cs) 0 ≡ colors_of (replicate (128 - length cs) no_color) = rw n (sym (colors_none (128 - length cs))) in
    rw (set_first (colors_of cs) p 0 (length cs), z) (sets_append (colors_of cs) (replicate (384 - 3 * length cs) 0) (set p 0 (length cs)) 1)
    ∙ ap (sets (set p 0 (length cs)) 1) (ap (λ (l : List ℕ). colors_of cs ++ l) q ∙ sym (colors_append cs (replicate (128 - length cs) no_color)))

module _ (p b : List ℕ) (limit : ℕ) (r : Ready p b limit) where
  pub old_is : sets (replicate 384 0) 0 (take 384 (drop 1 p)) ≡ colors_of (predictor_of p).entries
  old_is =
      let vs = take 384 (drop 1 p) in
      let s : length vs ≡ 384 = length-take-le 384 (drop 1 p) (rw length-drop (omega (arith, r.predictor))) in
      sets-eq vs (replicate 384 0) 0 (omega (arith, s, length-replicate {A = ℕ} 384 0)) ∙ rw s (append-nil vs) ∙ entries_are p r.predictor

  module _ (first flags k more : ℕ) (e₁ : first ≡ min (number b 5) limit) (e₂ : flags ≡ min (number b 6) (number p 0)) where
    whole : k ≡ first + length (kept_of b first flags limit (predictor_of p).entries) → more ≡ min (number p 0 - flags) (limit - k)
        → take first (block_of b).palette ++ (kept_of b first flags limit (predictor_of p).entries ++ take more (drop flags (predictor_of p).entries)) ≡ updated limit (take (number b 5) (block_of b).palette) (take (number b 6) (block_of b).reused) (take (number p 0) (predictor_of p).entries)
    whole e₃ e₄ =
        let palette = (block_of b).palette in
        let flagged = (block_of b).reused in
        let old = (predictor_of p).entries in
        let a : take first (take (number b 5) palette) ≡ take first palette = take-take first (number b 5) palette (omega arith) in
        let c : take flags (take (number b 6) flagged) ≡ take flags flagged = take-take flags (number b 6) flagged (omega arith) in
        let d : take flags (take (number p 0) old) ≡ take flags old = take-take flags (number p 0) old (omega arith) in
        let o : take more (drop flags (take (number p 0) old)) ≡ take more (drop flags old) = drop-take flags more (number p 0) old (omega arith) in
        let n₁ : length (take (number b 5) palette) ≡ number b 5 = length-take-le (number b 5) palette (omega (arith, palette_long b, r.entries)) in
        let n₂ : length (take (number p 0) old) ≡ number p 0 = length-take-le (number p 0) old (omega (arith, entries-long p, r.size)) in
        let n₃ : min (length (take (number b 6) flagged)) (number p 0) ≡ flags = rw length-take (with_flags (number b 6) (length flagged) (number p 0) flags (flags_long b) r.size e₂) in
        rw (a, c, d, o) at (parts limit first flags k more (take (number b 5) palette) (take (number b 6) flagged) (take (number p 0) old) (rw n₁ e₁) (rw n₂ (sym n₃)) (rw (c, d) e₃) (rw n₂ e₄))

    abbrev last : List Color
    last = updated limit (take (number b 5) (block_of b).palette) (take (number b 6) (block_of b).reused) (take (number p 0) (predictor_of p).entries)

    few : length last ≤ 128
    few = omega (arith, updated-length limit (take (number b 5) (block_of b).palette) (take (number b 6) (block_of b).reused) (take (number p 0) (predictor_of p).entries), r.most)

    laid-all : (old l₁ l₂ l₃ l₄ : List ℕ) → old ≡ sets (replicate 384 0) 0 (take 384 (drop 1 p)) → l₁ ≡ sets p 1 (take (3 * first) (drop 16 b)) → Kept l₁ old b first flags limit k l₂ → more ≡ min (number p 0 - flags) (limit - k) → l₃ ≡ sets l₂ (1 + 3 * k) (take (3 * more) (drop (3 * flags) old)) → l₄ ≡ sets (set l₃ 0 (k + more)) (1 + 3 * (k + more)) (replicate (384 - 3 * (k + more)) 0) → l₄ ≡ sets p 0 (length last ∷ colors_of (padded 128 last))
    laid-all old l₁ l₂ l₃ l₄ h q₁ q₂ e₄ q₃ q₄ =
        let cs = (predictor_of p).entries in
        let are : old ≡ colors_of cs = h ∙ old_is in
        let a = take first (block_of b).palette in
        let c = kept_of b first flags limit cs in
        let d = take more (drop flags cs) in
        let e₃ : k ≡ first + length c = q₂.count cs are in
        let n : length a ≡ first = length-take-le first (block_of b).palette (omega (arith, palette_long b, r.entries)) in
        let s₁ : l₁ ≡ sets p 1 (colors_of a) = q₁ ∙ ap (sets p 1) (palette_first b first (omega (arith, r.entries)) r.block) in
        let s₂ : l₂ ≡ sets p 1 (colors_of (a ++ c)) = q₂.is cs are ∙ rw s₁ (on p a c first (sym n)) in
        let g : take (3 * more) (drop (3 * flags) old) ≡ colors_of d = rw (are, colors_drop flags cs) (colors_take more (drop flags cs)) in
        let m : k ≡ length (a ++ c) = rw (length-append, n) e₃ in
        let s₃ : l₃ ≡ sets p 1 (colors_of last) = q₃ ∙ rw (s₂, g) (on p (a ++ c) d k m ∙ ap (λ (l : List Color). sets p 1 (colors_of l)) (append_assoc a c d ∙ whole e₃ e₄)) in
        let v : length d ≡ more = length-take-le more (drop flags cs) (rw length-drop (omega (arith, entries-long p, r.size))) in
        let t : k + more ≡ length last = rw (← whole e₃ e₄, length-append, length-append, n, v) (omega arith) in
        q₄ ∙ rw (t, s₃) (laid-whole p last few)

    pub renewed : (old l₁ l₂ l₃ l₄ : List ℕ) → old ≡ sets (replicate 384 0) 0 (take 384 (drop 1 p)) → l₁ ≡ sets p 1 (take (3 * first) (drop 16 b)) → Kept l₁ old b first flags limit k l₂ → more ≡ min (number p 0 - flags) (limit - k) → l₃ ≡ sets l₂ (1 + 3 * k) (take (3 * more) (drop (3 * flags) old)) → l₄ ≡ sets (set l₃ 0 (k + more)) (1 + 3 * (k + more)) (replicate (384 - 3 * (k + more)) 0) → l₄ ≡ sets p 0 (flat_predictor (after_of p b limit))
    unfolding block_of predictor_of flat_predictor renewed_of
    renewed old l₁ l₂ l₃ l₄ h q₁ q₂ e₄ q₃ q₄ =
        let u : length last ≤ 65535 = omega (arith, few) in
        laid-all old l₁ l₂ l₃ l₄ h q₁ q₂ e₄ q₃ q₄ ∙ ap (λ (x : ℕ). sets p 0 (x ∷ colors_of (padded 128 last))) (sym (min-eq_left u))

-- ---- what the parts of a renewal ask

long_as : (l after xs : List ℕ) (i : ℕ) → after ≡ sets l i xs → length after ≡ length l
long_as l after xs i e = ap length e ∙ length-sets l i xs

module _ (p b : List ℕ) (limit : ℕ) (r : Ready p b limit) (first : ℕ) (e₁ : first ≡ min (number b 5) limit) where
  pub palette_asked : (1 + 3 * first ≤ length p) × (16 + 3 * first ≤ length b) × (1 ≤ 385) × (16 ≤ 4432) × (3 * first ≤ 384)
  palette_asked =
      let n = r.entries in
      let h = r.predictor in
      let w = r.block in
      (omega arith, omega arith, omega arith, omega arith, omega arith)

  module _ (flags : ℕ) (e₂ : flags ≡ min (number b 6) (number p 0)) (old l₁ : List ℕ) (q₀ : old ≡ sets (replicate 384 0) 0 (take 384 (drop 1 p))) (q₁ : l₁ ≡ sets p 1 (take (3 * first) (drop 16 b))) where
    old_long : length old ≡ 384
    old_long = long_as (replicate 384 0) old (take 384 (drop 1 p)) 0 q₀ ∙ length-replicate {A = ℕ} 384 0

    pub keep_asked : (385 ≤ length l₁) × (384 ≤ length old) × (4432 ≤ length b) × (first ≤ limit) × (limit ≤ 128) × (flags ≤ 128)
    keep_asked =
        let n = r.size in
        let h = r.predictor in
        let o = old_long in
        let u = long_as p l₁ (take (3 * first) (drop 16 b)) 1 q₁ in
        (omega arith, omega arith, r.block, omega arith, r.most, omega arith)

    module _ (k more : ℕ) (l₂ : List ℕ) (q₂ : Kept l₁ old b first flags limit k l₂) (e₄ : more ≡ min (number p 0 - flags) (limit - k)) where
      after-long : 385 ≤ length l₂
      after-long = omega (arith, q₂.long, long_as p l₁ (take (3 * first) (drop 16 b)) 1 q₁, r.predictor)

      pub rest-asked : (1 + 3 * k + 3 * more ≤ length l₂) × (3 * flags + 3 * more ≤ length old) × (1 + 3 * k ≤ 385) × (3 * flags ≤ 4432) × (3 * more ≤ 384)
      rest-asked =
          let n = r.size in
          let m = r.most in
          let g = q₂.most in
          let o = old_long in
          let u = after-long in
          (omega arith, omega arith, omega arith, omega arith, omega arith)

      pub finish_asked : (l₃ : List ℕ) → l₃ ≡ sets l₂ (1 + 3 * k) (take (3 * more) (drop (3 * flags) old)) → (385 ≤ length l₃) × (k + more ≤ 128)
      finish_asked l₃ q₃ =
          let m = r.most in
          let g = q₂.most in
          let u = after-long in
          let v = long_as l₂ l₃ (take (3 * more) (drop (3 * flags) old)) (1 + 3 * k) q₃ in
          (omega arith, omega arith)
