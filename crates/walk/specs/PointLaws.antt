-- The points that the walk back lays are those of the path, and the runs between them its runs.
use Rattle.std.specs.Prelude.{◌≡◌, Bool, false, ℕ, zero, suc, ◌+◌, ◌≤◌, ◌<◌, eqb, get_or, set, length}
use Rattle.std.proofs.Math.Path.{refl}
use Rattle.std.proofs.Common.{sym, ◌∙◌, add-zero, zero-add, le_refl, add-one, arith, length-append, length-set, get_or-set_same, get_or-set_other, ne_eqb, eq-eqb}
use mathlib.Core.List.{List, [], ◌∷◌, ◌++◌, map, map-append}
use Rattle.std.proofs.lemmas.List.{length-map}
use Rattle.std.proofs.lemmas.List.Edits.{sets}
use Rattle.std.proofs.lemmas.Bool.{eqb-false}
use Rattle.base.specs.Codes.{All}
use Rattle.base.specs.Pick.{either}
use Rattle.h265.specs.Scan.{above_at}
use Rattle.model.specs.declared.PaletteRun.{PaletteRun}
use Rattle.cells.specs.Steps.{sent_in_lem}
use Rattle.paths.specs.Plan.{slot, Point, point, trail, run_to, runs_of}
use Rattle.walk.specs.Points.{Falls, LaidPoints, points_in, Rising, run_in, runs_in}

-- ---- laying one more

sets_more : {A : Type 0} (l s : List A) (i : ℕ) (a : A) → set (sets l i s) (i + length s) a ≡ sets l i (s ++ (a ∷ []))
sets_more l [] i a = rw (add-zero i)
sets_more l (x ∷ s) i a = let e : i + suc (length s) ≡ suc i + length s = omega arith in rw e (sets_more (set l i x) s (suc i) a)

pub laid_none : (pos : List ℕ) (st : List Bool) (k : Bool) (e : List ℕ) (s : List Bool) (q f : ℕ) → q ≡ 0 → LaidPoints (trail pos st f q k) 0 e e s s
unfolding trail
laid_none pos st k e s q zero z = record { count = refl; places = refl; sorts = refl }
laid_none pos st k e s q (suc f) z = rw (eq-eqb q 0 z) record { count = refl; places = refl; sorts = refl }

pub laid_more : (pos : List ℕ) (st : List Bool) (q : ℕ) (k : Bool) (p i : ℕ) (e₀ e : List ℕ) (s₀ s : List Bool)
    → ((f : ℕ) → p ≤ f → LaidPoints (trail pos st f p (get_or st (slot q k) false)) i e₀ e s₀ s)
    → p ≡ get_or pos (slot q k) 0 → p < q → (f : ℕ) → q ≤ f → LaidPoints (trail pos st f q k) (i + 1) e₀ (set e i q) s₀ (set s i k)
unfolding trail
laid_more pos st q k p i e₀ e s₀ s inner ep low zero h = absurd (omega arith)
laid_more pos st q k p i e₀ e s₀ s inner ep low (suc f) h =
    let o = inner f (omega arith) in
    let ne : q ≡ 0 → ⊥ = λ z. omega arith in
    let es : List Point = trail pos st f p (get_or st (slot q k) false) in
    rw (ne_eqb q 0 ne, ← ep) record {
      count = rw length-append (omega (arith, o.count));
      places = rw (map-append, o.places) (at-end (trail pos st f p (get_or st (slot q k) false)) (λ (x : Point). x.place) e₀ i q o.count);
      sorts = rw (map-append, o.sorts) (at-end (trail pos st f p (get_or st (slot q k) false)) (λ (x : Point). x.kind) s₀ i k o.count);
    }
  where
    at-end : {A : Type 0} (es : List Point) (g : Point → A) (l : List A) (i : ℕ) (a : A) → i ≡ length es → set (sets l 0 (map g es)) i a ≡ sets l 0 (map g es ++ (a ∷ []))
    at-end es g l i a n =
        let z : i ≡ 0 + length (map g es) = n ∙ sym (length-map es g) ∙ sym (zero-add (length (map g es))) in
        rw z (sets_more l (map g es) 0 a)

-- ---- what is laid is there

sets_before : {A : Type 0} (l s : List A) (i j : ℕ) (d : A) → j < i → get_or (sets l i s) j d ≡ get_or l j d
sets_before l [] i j d h = refl
sets_before l (x ∷ s) i j d h = sets_before (set l i x) s (suc i) j d (omega arith) ∙ get_or-set_other l i j x d (λ e. omega arith)

points_sets : (es : List Point) (ends : List ℕ) (kinds : List Bool) (i : ℕ) → i + length es ≤ length ends → i + length es ≤ length kinds
    → points_in (sets ends i (map (λ (e : Point). e.place) es)) (sets kinds i (map (λ (e : Point). e.kind) es)) i (length es) ≡ es
unfolding points_in
points_sets [] ends kinds i h g = refl
points_sets (e ∷ es) ends kinds i h g =
    let a : get_or (sets (set ends i e.place) (suc i) (map (λ (x : Point). x.place) es)) i 0 ≡ e.place =
    sets_before (set ends i e.place) (map (λ (x : Point). x.place) es) (suc i) i 0 (omega arith) ∙ get_or-set_same ends i e.place 0 (omega arith) in
    let b : get_or (sets (set kinds i e.kind) (suc i) (map (λ (x : Point). x.kind) es)) i false ≡ e.kind =
    sets_before (set kinds i e.kind) (map (λ (x : Point). x.kind) es) (suc i) i false (omega arith) ∙ get_or-set_same kinds i e.kind false (omega arith) in
    rw (a, b, points_sets es (set ends i e.place) (set kinds i e.kind) (suc i) (rw length-set (omega arith)) (rw length-set (omega arith)))

pub points_laid : (es : List Point) (r : ℕ) (ends₀ ends : List ℕ) (kinds₀ kinds : List Bool) → LaidPoints es r ends₀ ends kinds₀ kinds → r ≤ length ends₀ → r ≤ length kinds₀ → points_in ends kinds 0 r ≡ es
points_laid es r ends₀ ends kinds₀ kinds l h g =
    rw (l.places, l.sorts, l.count) (points_sets es ends₀ kinds₀ 0 (omega (arith, l.count)) (omega (arith, l.count)))

-- ---- the points rise

rising_more : (p : ℕ) (es : List Point) (q x : ℕ) (y : Bool) → Rising p es → p ≤ q → All (λ (e : Point). e.place ≤ q) es → q < x → x ≤ 1024 → Rising p (es ++ (point x y ∷ []))
rising_more p [] q x y r h a l m = (omega arith, m, tt)
rising_more p (e ∷ es) q x y r h a l m = (r.0, r.1, rising_more e.place es q x y r.2 a.0 a.1 l m)

pub trail_rising : (pos : List ℕ) (st : List Bool) → Falls pos → (f q : ℕ) (k : Bool) → q ≤ f → q ≤ 1024 → Rising 0 (trail pos st f q k) × All (λ (e : Point). e.place ≤ q) (trail pos st f q k)
unfolding trail
trail_rising pos st w zero q k h m = (tt, tt)
trail_rising pos st w (suc f) q k h m =
    either (eqb q 0)
    (λ t. rw t (tt, tt))
    (λ t.
    let o : q ≡ 0 → ⊥ = eqb-false q 0 t in
    let l = w.lower q k (omega arith) in
    let i = trail_rising pos st w f (get_or pos (slot q k) 0) (get_or st (slot q k) false) (omega arith) (omega arith) in
    rw t (rising_more 0 (trail pos st f (get_or pos (slot q k) 0) (get_or st (slot q k) false)) (get_or pos (slot q k) 0) q k i.0 (omega arith) i.1 l m, all_more (trail pos st f (get_or pos (slot q k) 0) (get_or st (slot q k) false)) (get_or pos (slot q k) 0) q k i.1 (omega arith)))
  where
    all_more : (es : List Point) (p q : ℕ) (k : Bool) → All (λ (e : Point). e.place ≤ p) es → p ≤ q → All (λ (e : Point). e.place ≤ q) (es ++ (point q k ∷ []))
    all_more [] p q k a h = (le_refl q, tt)
    all_more (e ∷ es) p q k a h = (omega (arith, a.0), all_more es p q k a.1 h)

-- ---- the runs between the points

module _ (size n : ℕ) (xs above : List ℕ) (w : (i : ℕ) → i < n → get_or above i 0 ≡ above_at size xs i) where
  run_is : (p : ℕ) (k : Bool) (e : Point) → p < n → run_in xs above p k e.place e.kind ≡ run_to size xs p k e
  unfolding run_in run_to
  run_is p k e h = rw (sent_in_lem size xs above p k (w p h))

  pub runs_are : (p : ℕ) (k : Bool) (es : List Point) → Rising p es → All (λ (e : Point). e.place ≤ n) es → runs_in xs above p k es ≡ runs_of size xs p k es
  unfolding runs_in runs_of
  runs_are p k [] r a = refl
  runs_are p k (e ∷ es) r a = rw (run_is p k e (omega (arith, r.0, a.0)), runs_are e.place e.kind es r.2 a.1)

-- ---- one turn of the loop that makes the runs

module _ (ends : List ℕ) (kinds : List Bool) (i c d : ℕ) (e : c ≡ suc d) where
  pub points_cons : points_in ends kinds i c ≡ point (get_or ends i 0) (get_or kinds i false) ∷ points_in ends kinds (i + 1) d
  unfolding points_in
  points_cons = rw (e, add-one)

pub points_nil : (ends : List ℕ) (kinds : List Bool) (i c : ℕ) → c ≡ 0 → points_in ends kinds i c ≡ []
unfolding points_in
points_nil ends kinds i c e = rw e

pub runs-turn : (xs above : List ℕ) (p : ℕ) (k : Bool) (es : List Point) (e : Point) (rest : List Point) (runs : List PaletteRun) (i : ℕ) → es ≡ e ∷ rest
    → sets runs i (runs_in xs above p k es) ≡ sets (set runs i (run_in xs above p k e.place e.kind)) (i + 1) (runs_in xs above e.place e.kind rest)
unfolding runs_in
runs-turn xs above p k es e rest runs i z = rw (z, add-one)

pub runs-end : (xs above : List ℕ) (p : ℕ) (k : Bool) (es : List Point) (runs : List PaletteRun) (i : ℕ) → es ≡ [] → runs ≡ sets runs i (runs_in xs above p k es)
unfolding runs_in
runs-end xs above p k es runs i z = rw z
