-- One turn of each loop of smoothing.
use Rattle.std.specs.Prelude.{Bool, ◌&&◌, List, ◌≡◌, eqb, Float, get_or, set}
use Rattle.std.proofs.Math.Bool.{true, false}
use Rattle.std.proofs.Common.{⊎_elim, ap, sym, ◌∙◌, arith}
use Rattle.std.proofs.Math.Path.{refl}
use Prim.Native.Nat.{ℕ, zero, suc, ◌+◌, ◌*◌, ◌-◌, ◌%◌, ◌≤◌, ◌<◌}
use Rattle.std.proofs.Math.Nat.{mod-one}
use Rattle.std.proofs.Math.Numerals.{add-one}
use borrow.Author.Tests.{eq-eqb, ne_eqb, le-leb, lt-leb, le-ltb}
use Rattle.std.specs.Float.{binary32}
use Rattle.std.specs.Float.Ieee.{neg, add, of_bits}
use Rattle.base.specs.Pick.{pick, lt_or_le}
use Rattle.h265.specs.Scan.{place_above, above_at}
use Rattle.model.specs.Domain.{sub_w, sub_h}
use Rattle.figure.specs.Figure.{chroma_in}
use Rattle.smooth.specs.Smooth.{fits, stretch, run_length, sum_from, copied_from, Scene, Map, map, above_fits, run_smoothed, smoothed_from, smoothed}

-- ---- where a chroma sample is written

pub chroma-none : (format x y : ℕ) → format ≡ 0 → false ≡ chroma_in format false x y
unfolding chroma_in
chroma-none format x y e = rw e

pub chroma-all : (format x y : ℕ) → 2 < format → true ≡ chroma_in format false x y
unfolding chroma_in sub_w sub_h
chroma-all format x y h =
    rw (ne_eqb format 0 (λ e. omega arith), ne_eqb format 1 (λ e. omega arith), ne_eqb format 2 (λ e. omega arith), mod-one x, mod-one y)

pub chroma-columns : (format x y : ℕ) → format ≡ 2 → eqb (x % 2) 0 ≡ chroma_in format false x y
unfolding chroma_in sub_w sub_h
chroma-columns format x y e = rw (e, mod-one y) (go (eqb (x % 2) 0))
  where
    go : (t : Bool) → t ≡ pick t true false
    go true = refl
    go false = refl

pub chroma-cells : (format x y : ℕ) → (format ≡ 0 → ⊥) → format ≤ 2 → (format ≡ 2 → ⊥) → eqb (x % 2) 0 && eqb (y % 2) 0 ≡ chroma_in format false x y
unfolding chroma_in sub_w sub_h
chroma-cells format x y a b c =
    let e : format ≡ 1 = omega arith in
    rw e (go (eqb (x % 2) 0) (eqb (y % 2) 0))
  where
    go : (t u : Bool) → t && u ≡ pick t (pick u true false) false
    go true true = refl
    go true false = refl
    go false u = refl

-- ---- the length of a run

one_more : (is : List ℕ) (v f at : ℕ) → get_or is at 0 ≡ v → stretch is v (suc f) at ≡ suc (stretch is v f (suc at))
unfolding stretch
one_more is v f at e = rw (eq-eqb (get_or is at 0) v e)

pub stretch-more : (is : List ℕ) (v n at : ℕ) → at < n → get_or is at 0 ≡ v → stretch is v (n - at) at ≡ stretch is v (n - (at + 1)) (at + 1) + 1
stretch-more is v n at h e =
    let z : n - at ≡ suc (n - (at + 1)) = omega arith in
    let w : suc at ≡ at + 1 = omega arith in
    let q : suc (stretch is v (n - (at + 1)) (at + 1)) ≡ stretch is v (n - (at + 1)) (at + 1) + 1 = omega arith in
    ap (λ (k : ℕ). stretch is v k at) z ∙ one_more is v (n - (at + 1)) at e ∙ ap (λ (k : ℕ). suc (stretch is v (n - (at + 1)) k)) w ∙ q

pub stretch-stop : (is : List ℕ) (v f at : ℕ) → (get_or is at 0 ≡ v → ⊥) → stretch is v f at ≡ 0
unfolding stretch
stretch-stop is v zero at e = refl
stretch-stop is v (suc f) at e = rw (ne_eqb (get_or is at 0) v e)

pub stretch-end : (is : List ℕ) (v n at : ℕ) → n ≤ at → stretch is v (n - at) at ≡ 0
unfolding stretch
stretch-end is v n at h = let z : n - at ≡ 0 = omega arith in rw z

pub run_first : (n : ℕ) (is : List ℕ) (start : ℕ) → start < n → start + 1 + stretch is (get_or is start 0) (n - (start + 1)) (start + 1) ≡ start + run_length n is start
unfolding run_length
run_first n is start h = omega (arith, stretch-more is (get_or is start 0) n start h refl)

pub run_some : (n : ℕ) (is : List ℕ) (start : ℕ) → start < n → 1 ≤ run_length n is start
run_some n is start h = omega (arith, run_first n is start h)

-- ---- sums, and copies from above

module _ (f : ℕ → Float) (start : ℕ) where
  -- the code's literal -0.0
  pub sum_from-none : neg (of_bits binary32 0) ≡ sum_from f start 0
  unfolding sum_from neg of_bits
  sum_from-none = refl

  pub sum_from-next : (len : ℕ) → sum_from f start (len + 1) ≡ add binary32 (sum_from f start len) (f (start + len))
  unfolding sum_from
  sum_from-next len = rw add-one

module _ (size : ℕ) (is : List ℕ) (start : ℕ) where
  pub copied_none : copied_from size is start 0 ≡ is
  unfolding copied_from
  copied_none = refl

  pub copied_next : (len : ℕ) → copied_from size is start (len + 1) ≡ set (copied_from size is start len) (start + len) (above_at size (copied_from size is start len) (start + len))
  unfolding copied_from
  copied_next len = rw add-one

-- from row 1 on
pub above_is : (size : ℕ) (is : List ℕ) (i : ℕ) → size ≤ i → get_or is (place_above size i) 0 ≡ above_at size is i
unfolding above_at
above_is size is i h = rw (le-ltb i size h)

module _ (size escape tolerance : ℕ) (palette cells is : List ℕ) (value i : ℕ) where
  pub above_escape : above_at size is i ≡ escape → false ≡ above_fits size escape tolerance palette cells is value i
  unfolding above_fits
  above_escape e = rw (eq-eqb (above_at size is i) escape e)

  pub above_same : (above_at size is i ≡ escape → ⊥) → above_at size is i ≡ value → true ≡ above_fits size escape tolerance palette cells is value i
  unfolding above_fits
  above_same n e = rw (ne_eqb (above_at size is i) escape n, eq-eqb (above_at size is i) value e)

  pub above_other : (above_at size is i ≡ escape → ⊥) → (above_at size is i ≡ value → ⊥) → fits cells tolerance (get_or palette (above_at size is i) 0) i ≡ above_fits size escape tolerance palette cells is value i
  unfolding above_fits
  above_other n e = rw (ne_eqb (above_at size is i) escape n, ne_eqb (above_at size is i) value e) (go (fits cells tolerance (get_or palette (above_at size is i) 0) i))
    where
      go : (t : Bool) → t ≡ pick (pick t true false) true false
      go true = refl
      go false = refl

-- ---- the runs of a block

module _ (s : Scene) where
  abbrev n : ℕ
  n = s.size * s.size

  -- the map after the run that starts at start
  abbrev pub next : ℕ → Map → Map
  next start now =
      let one : Map = run_smoothed s now.indices start (run_length n now.indices start) in
      map one.indices (pick one.changed true now.changed)

  pub smooth_end : (f start : ℕ) (now : Map) → n ≤ start → smoothed_from s f start now ≡ now
  unfolding smoothed_from
  smooth_end zero start now h = refl
  smooth_end (suc f) start now h = rw (le-leb n start h)

  turn : (f start : ℕ) (now : Map) → start < n → smoothed_from s (suc f) start now ≡ smoothed_from s f (start + run_length n now.indices start) (next start now)
  unfolding smoothed_from
  turn f start now h = rw (lt-leb n start h)

  -- any f that is at least the cells left
  fuel_same : (f g start : ℕ) (now : Map) → n ≤ start + f → n ≤ start + g → smoothed_from s f start now ≡ smoothed_from s g start now
  fuel_same zero g start now a b = sym (smooth_end g start now (omega arith) ∙ sym (smooth_end zero start now (omega arith)))
  fuel_same (suc f) zero start now a b = smooth_end (suc f) start now (omega arith) ∙ sym (smooth_end zero start now (omega arith))
  fuel_same (suc f) (suc g) start now a b =
      ⊎_elim
      (λ (h : start < n).
      let p = run_some n now.indices start h in
      turn f start now h ∙ fuel_same f g (start + run_length n now.indices start) (next start now) (omega arith) (omega arith) ∙ sym (turn g start now h))
      (λ (h : n ≤ start). smooth_end (suc f) start now h ∙ sym (smooth_end (suc g) start now h))
      (lt_or_le start n)

  pub smooth_first : (is : List ℕ) → smoothed_from s (n - 0) 0 (map is false) ≡ smoothed s is
  unfolding smoothed
  smooth_first is = fuel_same (n - 0) n 0 (map is false) (omega arith) (omega arith)

  pub smooth_turn : (start : ℕ) (now : Map) → start < n → smoothed_from s (n - start) start now ≡ smoothed_from s (n - (start + run_length n now.indices start)) (start + run_length n now.indices start) (next start now)
  smooth_turn start now h =
      let p = run_some n now.indices start h in
      let z : n - start ≡ suc (n - start - 1) = omega arith in
      let q = start + run_length n now.indices start in
      ap (λ (k : ℕ). smoothed_from s k start now) z ∙ turn (n - start - 1) start now h ∙ fuel_same (n - start - 1) (n - q) q (next start now) (omega arith) (omega arith)
