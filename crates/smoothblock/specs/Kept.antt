-- What smoothing keeps: a cell is an escape after it just where it was one before, indices stay at most any bound they have, and what stands past the block is not touched. Where the budget is a NaN nothing moves.
use Rattle.std.proofs.Math.Bool.{Bool, true, false}
use Rattle.std.specs.Prelude.{not, List, [], ◌∷◌, ◌≡◌, leb, Float, length, set}
use Rattle.std.proofs.Math.Logic.{⊎_elim}
use Rattle.std.proofs.Math.Path.{refl, ap}
use Rattle.std.proofs.Common.{sym, ◌∙◌, length-set, get_or-set_same, get_or-set_other}
use Prim.Native.Nat.{ℕ, zero, suc, ◌+◌, ◌*◌, ◌-◌, ◌≤◌, ◌<◌}
use native.Mathlib.Omega.{arith}
use borrow.Author.Tests.{eqb-true, le-leb, lt-leb, leb-true, not-true}
use Rattle.std.proofs.Math.Dec.{eqb}
use Rattle.std.specs.Float.Ieee.{nan, lt}
use Rattle.std.specs.Float.{inf, fin}
use Rattle.std.proofs.Math.ListN.{get_or}
use Rattle.std.proofs.Math.Seq.{set_out}
use Rattle.base.specs.Cells.{laid}
use Rattle.base.specs.Pick.{pick, either, lt_or_le, eq_or_ne}
use Rattle.base.specs.Tests.{every, both, up_to, up_to-at}
use Rattle.h265.specs.Scan.{place_above, above_at}
use Rattle.h265.specs.ScanLaws.{above_before}
use Rattle.smooth.specs.Smooth.{fits, stretch, run_length, copied_from, Scene, Map, map, above_fits, colour, joins, copies, run_smoothed, smoothed_from, smoothed}
use Rattle.smooth.specs.Laws.{above_is}

-- indices before and after; n is the number of cells
pub record Keeps (escape n : ℕ) (is js : List ℕ) : Type 0 where
  pub alike : (i : ℕ) → eqb (get_or js i 0) escape ≡ eqb (get_or is i 0) escape
  pub most : (m : ℕ) → ((i : ℕ) → i < n → get_or is i 0 ≤ m) → (i : ℕ) → i < n → get_or js i 0 ≤ m
  pub past : (i : ℕ) → n ≤ i → get_or js i 0 ≡ get_or is i 0
  pub count : length js ≡ length is

-- ---- one place

set-either : {C : Type 0} (l : List ℕ) (i v j : ℕ) → (j ≡ i → get_or (set l i v) j 0 ≡ v → C) → (get_or (set l i v) j 0 ≡ get_or l j 0 → C) → C
set-either l i v j a b =
    ⊎_elim
    (λ (e : j ≡ i).
    ⊎_elim
    (λ (h : i < length l). a e (ap (λ (z : ℕ). get_or (set l i v) z 0) e ∙ get_or-set_same l i v 0 h))
    (λ (h : length l ≤ i). b (ap (λ (z : List ℕ). get_or z j 0) (set_out l i v h)))
    (lt_or_le i (length l)))
    (λ (n : j ≡ i → ⊥). b (get_or-set_other l i j v 0 n))
    (eq_or_ne j i)

module _ (escape n : ℕ) where
  keeps-none : (is : List ℕ) → Keeps escape n is is
  keeps-none is = record { alike = λ i. refl; most = λ m b. b; past = λ i h. refl; count = refl }

  keeps_then : (is js ks : List ℕ) → Keeps escape n is js → Keeps escape n js ks → Keeps escape n is ks
  keeps_then is js ks a b = record { alike = λ i. b.alike i ∙ a.alike i; most = λ m h. b.most m (a.most m h); past = λ i h. b.past i h ∙ a.past i h; count = b.count ∙ a.count }

  keeps-set : (is l : List ℕ) (i v : ℕ) → Keeps escape n is l → i < n → eqb (get_or is i 0) escape ≡ false → eqb v escape ≡ false → ((m : ℕ) → ((j : ℕ) → j < n → get_or is j 0 ≤ m) → v ≤ m) → Keeps escape n is (set l i v)
  keeps-set is l i v k h o w b = record {
    alike = λ j. set-either l i v j (λ q e. ap (λ (z : ℕ). eqb z escape) e ∙ w ∙ sym (ap (λ (z : ℕ). eqb (get_or is z 0) escape) q ∙ o)) (λ e. ap (λ (z : ℕ). eqb z escape) e ∙ k.alike j);
    most = λ m a j g. set-either l i v j (λ q e. rw e (b m a)) (λ e. rw e (k.most m a j g));
    past = λ j g. set-either l i v j (λ q e. absurd (omega arith)) (λ e. e ∙ k.past j g);
    count = length-set l i v ∙ k.count;
  }

  -- ---- a run

  laid-keeps : (is : List ℕ) (v start k : ℕ) → start + k ≤ n → ((j : ℕ) → j < k → eqb (get_or is (start + j) 0) escape ≡ false) → eqb v escape ≡ false → ((m : ℕ) → ((j : ℕ) → j < n → get_or is j 0 ≤ m) → v ≤ m)
      → Keeps escape n is (laid (λ (i : ℕ). v) is start k)
  unfolding laid
  laid-keeps is v start zero h o w b = keeps-none is
  laid-keeps is v start (suc k) h o w b =
      keeps-set is (laid (λ (i : ℕ). v) is start k) (start + k) v (laid-keeps is v start k (omega arith) (λ j l. o j (omega arith)) w b) (omega arith) (o k (omega arith)) w b

  copied-keeps : (size : ℕ) (is : List ℕ) (start k : ℕ) → 1 ≤ size → size ≤ start → start + k ≤ n → ((j : ℕ) → j < k → eqb (get_or is (start + j) 0) escape ≡ false) → ((j : ℕ) → j < k → eqb (above_at size is (start + j)) escape ≡ false)
      → Keeps escape n is (copied_from size is start k)
  unfolding copied_from
  copied-keeps size is start zero p q h o w = keeps-none is
  copied-keeps size is start (suc k) p q h o w =
      let done = copied_from size is start k in
      let i = start + k in
      let x : size ≤ i = omega arith in
      let b = above_before size i x p in
      let r = copied-keeps size is start k p q (omega arith) (λ j l. o j (omega arith)) (λ j l. w j (omega arith)) in
      keeps-set is done i (above_at size done i) r (omega arith) (o k (omega arith))
      (ap (λ (z : ℕ). eqb z escape) (sym (above_is size done i x)) ∙ r.alike (place_above size i) ∙ ap (λ (z : ℕ). eqb z escape) (above_is size is i x) ∙ w k (omega arith))
      (λ m a. rw (above_is size done i x) at (r.most m a (place_above size i) (omega arith)))

-- the places of a run have its index
stretch-at : (is : List ℕ) (v f at j : ℕ) → j < stretch is v f at → get_or is (at + j) 0 ≡ v
unfolding stretch
stretch-at is v zero at j h = absurd (omega arith)
stretch-at is v (suc f) at j h =
    either (eqb (get_or is at 0) v)
    (λ t. one (stretch-at is v f (suc at)) j (eqb-true (get_or is at 0) v t) (rw t at h))
    (λ t. let z : j < 0 = rw t at h in absurd (omega arith))
  where
    one : ((i : ℕ) → i < stretch is v f (suc at) → get_or is (suc at + i) 0 ≡ v) → (i : ℕ) → get_or is at 0 ≡ v → i < suc (stretch is v f (suc at)) → get_or is (at + i) 0 ≡ v
    one more zero e l = let z : at + 0 ≡ at = omega arith in rw z e
    one more (suc i) e l = let z : at + suc i ≡ suc at + i = omega arith in rw z (more i (omega arith))

stretch-most : (is : List ℕ) (v f at : ℕ) → stretch is v f at ≤ f
unfolding stretch
stretch-most is v zero at = omega arith
stretch-most is v (suc f) at = go (eqb (get_or is at 0) v) (stretch-most is v f (suc at))
  where
    go : (t : Bool) → stretch is v f (suc at) ≤ f → pick t (suc (stretch is v f (suc at))) 0 ≤ suc f
    go true h = omega arith
    go false h = omega arith

module _ (s : Scene) where
  abbrev n : ℕ
  n = s.size * s.size

  joins-left : (is : List ℕ) (start len : ℕ) → joins s is start len ≡ true → (1 ≤ start) × (eqb (get_or is (start - 1) 0) s.escape ≡ false)
  unfolding joins
  joins-left is start len e =
      let a = both (leb 1 start) _ e in
      let b = both (not (eqb (get_or is (start - 1) 0) s.escape)) _ a.1 in
      (leb-true 1 start a.0, not-true (eqb (get_or is (start - 1) 0) s.escape) b.0)

  copies-above : (is : List ℕ) (start len : ℕ) → copies s is start len ≡ true → (s.size ≤ start) × ((j : ℕ) → j < len → eqb (above_at s.size is (start + j)) s.escape ≡ false)
  unfolding copies above_fits
  copies-above is start len e =
      let a = both (leb s.size start) _ e in
      let f : ℕ → Bool = λ j. above_fits s.size s.escape s.tolerance s.palette s.cells is (get_or is start 0) (start + j) in
      let b = both _ _ a.1 in (
        leb-true s.size start a.0,
        λ j h. not-true (eqb (above_at s.size is (start + j)) s.escape) (both (not (eqb (above_at s.size is (start + j)) s.escape)) _ (up_to-at f len b.0 j h)).0,
      )

  module _ (some : 1 ≤ s.size) where
    run_keeps : (is : List ℕ) (start : ℕ) → start < n → Keeps s.escape n is (run_smoothed s is start (run_length n is start)).indices
    unfolding run_smoothed run_length
    run_keeps is start h =
        let v = get_or is start 0 in
        let len = stretch is v (n - start) start in
        let fit : start + len ≤ n = omega (arith, stretch-most is v (n - start) start) in
        either (eqb v s.escape) (λ t. rw t (keeps-none s.escape n is))
        (λ t.
        let o : (j : ℕ) → j < len → eqb (get_or is (start + j) 0) s.escape ≡ false = λ j l. ap (λ (z : ℕ). eqb z s.escape) (stretch-at is v (n - start) start j l) ∙ t in
        either (joins s is start len)
        (λ u.
        let a = joins-left is start len u in
        rw (t, u) (laid-keeps s.escape n is (get_or is (start - 1) 0) start len fit o a.1 (λ m b. b (start - 1) (omega (arith, a.0)))))
        (λ u.
        either (copies s is start len)
        (λ w.
        let a = copies-above is start len w in
        rw (t, u, w) (copied-keeps s.escape n s.size is start len some a.0 fit o a.1))
        (λ w. rw (t, u, w) (keeps-none s.escape n is))))

    from-keeps : (f start : ℕ) (now : Map) → Keeps s.escape n now.indices (smoothed_from s f start now).indices
    unfolding smoothed_from
    from-keeps zero start now = keeps-none s.escape n now.indices
    from-keeps (suc f) start now =
        let len = run_length n now.indices start in
        let one = run_smoothed s now.indices start len in
        ⊎_elim
        (λ (h : start < n).
        rw (lt-leb n start h)
        (keeps_then s.escape n now.indices one.indices _ (run_keeps now.indices start h) (from-keeps f (start + len) (map one.indices (pick one.changed true now.changed)))))
        (λ (h : n ≤ start). rw (le-leb n start h) (keeps-none s.escape n now.indices))
        (lt_or_le start n)

    pub smooth_keeps : (is : List ℕ) → Keeps s.escape n is (smoothed s is).indices
    unfolding smoothed
    smooth_keeps is = from-keeps n 0 (map is false)

  -- ---- a NaN

  lt_nan : (x : Float) → lt x nan ≡ false
  unfolding lt
  lt_nan nan = refl
  lt_nan (inf t) = refl
  lt_nan (fin t m e) = refl

  none : (a b c : Bool) → every (a ∷ b ∷ c ∷ false ∷ []) ≡ false
  none true true true = refl
  none true true false = refl
  none true false c = refl
  none false b c = refl

  joins_nan : s.budget ≡ nan → (is : List ℕ) (start len : ℕ) → joins s is start len ≡ false
  unfolding joins
  joins_nan e is start len =
      rw (e, lt_nan)
      (none (leb 1 start) (not (eqb (get_or is (start - 1) 0) s.escape)) (up_to len (λ j. fits s.cells s.tolerance (colour s (get_or is (start - 1) 0)) (start + j))))

  copies_nan : s.budget ≡ nan → (is : List ℕ) (start len : ℕ) → copies s is start len ≡ false
  unfolding copies
  copies_nan e is start len =
      rw (e, lt_nan)
      (none true (leb s.size start) (up_to len (λ j. above_fits s.size s.escape s.tolerance s.palette s.cells is (get_or is start 0) (start + j))))

  run_nan : s.budget ≡ nan → (is : List ℕ) (start len : ℕ) → run_smoothed s is start len ≡ map is false
  unfolding run_smoothed
  run_nan e is start len = rw (joins_nan e is start len, copies_nan e is start len) (go (eqb (get_or is start 0) s.escape))
    where
      go : (t : Bool) → pick t (map is false) (map is false) ≡ map is false
      go true = refl
      go false = refl

  from_nan : s.budget ≡ nan → (f start : ℕ) (is : List ℕ) → smoothed_from s f start (map is false) ≡ map is false
  unfolding smoothed_from
  from_nan e zero start is = refl
  from_nan e (suc f) start is = rw (run_nan e is start (run_length n is start), from_nan e f (start + run_length n is start) is) (go (leb n start))
    where
      go : (t : Bool) → pick t (map is false) (map is false) ≡ map is false
      go true = refl
      go false = refl

  pub nan_moves_nothing : s.budget ≡ nan → (is : List ℕ) → smoothed s is ≡ map is false
  unfolding smoothed
  nan_moves_nothing e is = from_nan e n 0 is
