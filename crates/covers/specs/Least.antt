-- Each entry of the finished table is the first cheapest of the offers made to its slot, in the order of the slots they come from:
-- an offer takes the place of an earlier one only where it is strictly cheaper.
use Rattle.std.specs.Prelude.{◌≡◌, Bool, List, [], ◌∷◌, ◌⊎◌, eqb, ltb, Float, set}
use Rattle.std.proofs.Math.Path.{refl, ap}
use Rattle.std.proofs.Common.{sym, ◌∙◌, le_refl, add-zero, get_or-set_same, get_or-set_other}
use Rattle.std.proofs.Math.Bool.{true, false}
use Rattle.std.proofs.Math.Logic.{inl, inr, ⊎_elim}
use Prim.Native.Nat.{ℕ, zero, suc, ◌+◌, ◌*◌, ◌-◌, ◌/◌, ◌≤◌, ◌<◌}
use native.Mathlib.Omega.{arith}
use Rattle.std.specs.Float.Ieee.{nan, lt}
use Rattle.std.proofs.Math.ListN.{get_or}
use borrow.Author.Tests.{eq-eqb, ne_eqb, eqb-true, eqb-false, lt-ltb, le-ltb, ltb-true, ltb-false}
use Rattle.base.specs.Pick.{pick, either, true_false, lt_or_le}
use Rattle.base.specs.Tests.{every, any}
use Rattle.syntax.specs.Runs.{may_copy}
use Rattle.paths.specs.Cells.{copies, index_length, above_length, draws, sent_for, stops_at}
use Rattle.paths.specs.CellLaws.{index_le, index-some, above_le, above-yes}
use Rattle.paths.specs.Plan.{Job, Table, tab, slot, place_of, kind_of, infinite, head_rate, draw_cost, copy_cost, relaxed, stopped, indexed, copied, stepped, swept, fresh}
use Rattle.paths.specs.Edges.{cost_of}
use Rattle.paths.specs.TableLaws.{cost_at, from_place, from_kind, Wide, slot_lt, slot-low, slot-high, slot_of, slot_cases, relaxed_cases, relaxed_wide}
use Rattle.paths.specs.Sunk.{Sunk, fresh_sunk, swept_sunk}

pub record Entry : Type 0 where
  pub cost : Float
  pub place : ℕ
  pub kind : Bool

abbrev pub entry : Float → ℕ → Bool → Entry
entry c p l = record { cost = c; place = p; kind = l }

abbrev pub entry_at : Table → ℕ → Bool → Entry
entry_at t q k = entry (cost_at t q k) (from_place t q k) (from_kind t q k)

unfoldable pub better : Entry → Float → ℕ → Bool → Entry
better e c p l = pick (lt c e.cost) (entry c p l) e

-- a run is offered from p, after a run of kind l, up to q: a copy-above run goes as far as it can; an index run does, or stops early
unfoldable pub offers : Job → ℕ → Bool → ℕ → Bool → Bool
offers j p l q true = every (may_copy j.size p l ∷ copies j.size j.xs p ∷ eqb q (p + above_length j.size j.n j.xs p) ∷ [])
offers j p l q false =
    every
    (draws j.size j.xs p l
    ∷ any (eqb q (p + index_length j.n j.xs p) ∷ every (ltb p q ∷ ltb q (p + index_length j.n j.xs p) ∷ stops_at j.size j.xs p q ∷ []) ∷ []) ∷ [])

-- the best offer from the slots below s, which cost what the table t says
unfoldable pub best : Job → Table → ℕ → Bool → ℕ → Entry
best j t q k zero = entry_at fresh q k
best j t q k (suc s) =
    let before : Entry = best j t q k s in
    let c : Float = get_or t.cost s nan in
    pick (every (lt c infinite ∷ offers j (place_of s) (kind_of s) q k ∷ [])) (better before (cost_of j (place_of s) (kind_of s) c q k) (place_of s) (kind_of s)) before

-- ---- one offer

relaxed-here : (t : Table) (q : ℕ) (k : Bool) (c : Float) (p : ℕ) (l : Bool) → Wide t → q ≤ 1024 → entry_at (relaxed t (slot q k) c p l) q k ≡ better (entry_at t q k) c p l
unfolding better
relaxed-here t q k c p l w h =
    relaxed_cases t q k c p l
    (λ e f. rw (f, e, get_or-set_same t.cost (slot q k) c nan (omega (arith, slot_lt q k h, w.0)), get_or-set_same t.pos (slot q k) p 0 (omega (arith, slot_lt q k h, w.1)), get_or-set_same t.st (slot q k) l false (omega (arith, slot_lt q k h, w.2))))
    (λ e f. rw (f, e))

relaxed_else : (t : Table) (q : ℕ) (k : Bool) (c : Float) (p : ℕ) (l : Bool) (x : ℕ) (y : Bool) → (slot x y ≡ slot q k → ⊥) → entry_at (relaxed t (slot q k) c p l) x y ≡ entry_at t x y
relaxed_else t q k c p l x y d =
    relaxed_cases t q k c p l
    (λ e f. rw (f, get_or-set_other t.cost (slot q k) (slot x y) c nan d, get_or-set_other t.pos (slot q k) (slot x y) p 0 d, get_or-set_other t.st (slot q k) (slot x y) l false d))
    (λ e f. rw f)

apart : (q x : ℕ) (k y : Bool) → (x ≡ q → ⊥) → slot x y ≡ slot q k → ⊥
apart q x k y d e = d (omega (arith, slot-low q k, slot-high q k, slot-low x y, slot-high x y))

-- ---- the early stops

module _ (stop : ℕ → Bool) (g : ℕ → Float) (p : ℕ) (l : Bool) where
  stopped_wide : (f q : ℕ) (t : Table) → q + f ≤ 1024 → Wide t → Wide (stopped stop g p l f q t)
  unfolding stopped
  stopped_wide zero q t h w = w
  stopped_wide (suc f) q t h w = stopped_wide f (suc q) _ (omega arith) (either (stop q) (λ e. rw e (relaxed_wide t q false (g q) p l w (omega arith))) (λ e. rw e w))

  -- outside, and at copy-above slots
  stopped_else : (f q : ℕ) (t : Table) (x : ℕ) (y : Bool) → ((i : ℕ) → q ≤ i → i < q + f → slot x y ≡ slot i false → ⊥) → entry_at (stopped stop g p l f q t) x y ≡ entry_at t x y
  unfolding stopped
  stopped_else zero q t x y d = refl
  stopped_else (suc f) q t x y d =
      stopped_else f (suc q) _ x y (λ i a b. d i (omega arith) (omega arith))
      ∙ either (stop q) (λ e. rw e (relaxed_else t q false (g q) p l x y (d q (omega arith) (omega arith)))) (λ e. rw e)

  stopped-here : (f q : ℕ) (t : Table) (x : ℕ) → q ≤ x → x < q + f → q + f ≤ 1024 → Wide t
      → entry_at (stopped stop g p l f q t) x false ≡ pick (stop x) (better (entry_at t x false) (g x) p l) (entry_at t x false)
  unfolding stopped
  stopped-here zero q t x a b h w = absurd (omega arith)
  stopped-here (suc f) q t x a b h w =
      ⊎_elim
      (λ (o : q < x).
      stopped-here f (suc q) _ x o (omega arith) (omega arith) (either (stop q) (λ e. rw e (relaxed_wide t q false (g q) p l w (omega arith))) (λ e. rw e w))
      ∙ either (stop q) (λ e. rw (e, relaxed_else t q false (g q) p l x false (λ z. omega arith))) (λ e. rw e))
      (λ (o : x ≤ q).
      let z : x ≡ q = omega arith in
      rw z (stopped_else f (suc q) _ q false (λ i u v y. omega arith) ∙ either (stop q) (λ e. rw e (relaxed-here t q false (g q) p l w (omega arith))) (λ e. rw e)))
      (lt_or_le q x)

-- ---- the offers from one slot

module _ (j : Job) (nh : j.n ≤ 1024) (p : ℕ) (l : Bool) (c : Float) (ph : p < j.n) where
  end : ℕ
  end = p + index_length j.n j.xs p

  g : ℕ → Float
  g = draw_cost j p (sent_for j.size j.xs p l) (head_rate j p l c)

  early : Table → Table
  early t = stopped (stops_at j.size j.xs p) g p l (end - (p + 1)) (p + 1) t

  end-high : end ≤ j.n
  unfolding end
  end-high = index_le j.n j.xs p (omega arith)

  end_low : p < end
  unfolding end
  end_low = omega (arith, index-some j.n j.xs p ph)

  early_wide : (t : Table) → Wide t → Wide (early t)
  unfolding early
  early_wide t w = stopped_wide (stops_at j.size j.xs p) g p l (end - (p + 1)) (p + 1) t (omega (arith, end-high, end_low)) w

  indexed-yes : (t : Table) → draws j.size j.xs p l ≡ true → indexed j p l c t ≡ relaxed (early t) (slot end false) (g end) p l
  unfolding indexed early end g
  indexed-yes t d = rw d

  indexed_no : (t : Table) → draws j.size j.xs p l ≡ false → indexed j p l c t ≡ t
  unfolding indexed
  indexed_no t d = rw d

  indexed_wide : (t : Table) → Wide t → Wide (indexed j p l c t)
  indexed_wide t w =
      either (draws j.size j.xs p l)
      (λ d. rw (indexed-yes t d) (relaxed_wide (early t) end false (g end) p l (early_wide t w) (omega (arith, end-high))))
      (λ d. rw (indexed_no t d) w)

  -- copy-above slots are left alone
  indexed-above : (t : Table) (x : ℕ) → entry_at (indexed j p l c t) x true ≡ entry_at t x true
  unfolding early
  indexed-above t x =
      either (draws j.size j.xs p l)
      (λ d.
      rw (indexed-yes t d)
      (relaxed_else (early t) end false (g end) p l x true (λ z. omega arith)
      ∙ stopped_else (stops_at j.size j.xs p) g p l (end - (p + 1)) (p + 1) t x true (λ i a b z. omega arith)))
      (λ d. rw (indexed_no t d))

  offered : ℕ → Bool → Table → Entry
  offered x k t = pick (offers j p l x k) (better (entry_at t x k) (cost_of j p l c x k) p l) (entry_at t x k)

  at-end : draws j.size j.xs p l ≡ true → (t : Table) → Wide t → entry_at (relaxed (early t) (slot end false) (g end) p l) end false ≡ better (entry_at t end false) (g end) p l
  unfolding early
  at-end d t w =
      relaxed-here (early t) end false (g end) p l (early_wide t w) (omega (arith, end-high))
      ∙ ap (λ (e : Entry). better e (g end) p l) (stopped_else (stops_at j.size j.xs p) g p l (end - (p + 1)) (p + 1) t end false (λ i a b z. omega (arith, end_low)))

  at-stop : (t : Table) (x : ℕ) → Wide t → p < x → x < end → entry_at (relaxed (early t) (slot end false) (g end) p l) x false ≡ pick (stops_at j.size j.xs p x) (better (entry_at t x false) (g x) p l) (entry_at t x false)
  unfolding early
  at-stop t x w a b =
      relaxed_else (early t) end false (g end) p l x false (λ z. omega arith)
      ∙ stopped-here (stops_at j.size j.xs p) g p l (end - (p + 1)) (p + 1) t x (omega arith) (omega (arith, end_low)) (omega (arith, end-high, end_low)) w

  at_none : (t : Table) (x : ℕ) → (x ≤ p) ⊎ (end < x) → entry_at (relaxed (early t) (slot end false) (g end) p l) x false ≡ entry_at t x false
  unfolding early
  at_none t x o =
      relaxed_else (early t) end false (g end) p l x false (λ z. ⊎_elim (λ (a : x ≤ p). omega (arith, end_low)) (λ (a : end < x). omega arith) o)
      ∙ stopped_else (stops_at j.size j.xs p) g p l (end - (p + 1)) (p + 1) t x false (λ i a b z. ⊎_elim (λ (u : x ≤ p). omega (arith, end_low)) (λ (u : end < x). omega (arith, end_low)) o)

  offers-end : draws j.size j.xs p l ≡ true → offers j p l end false ≡ true
  unfolding offers end
  offers-end d = rw (d, eq-eqb (p + index_length j.n j.xs p) (p + index_length j.n j.xs p) refl)

  offers-stop : (x : ℕ) → draws j.size j.xs p l ≡ true → p < x → x < end → offers j p l x false ≡ stops_at j.size j.xs p x
  unfolding offers end
  offers-stop x d a b =
      let o : x ≡ p + index_length j.n j.xs p → ⊥ = λ e. omega arith in
      rw (d, ne_eqb x (p + index_length j.n j.xs p) o, lt-ltb p x a, lt-ltb x (p + index_length j.n j.xs p) b) (either (stops_at j.size j.xs p x) (λ s. rw s) (λ s. rw s))

  offers-none : (x : ℕ) → (x ≤ p) ⊎ (end < x) → offers j p l x false ≡ false
  unfolding offers end
  offers-none x v =
      let o : x ≡ p + index_length j.n j.xs p → ⊥ = λ e. ⊎_elim (λ (a : x ≤ p). omega (arith, index-some j.n j.xs p ph)) (λ (a : p + index_length j.n j.xs p < x). omega arith) v in
      rw (ne_eqb x (p + index_length j.n j.xs p) o)
      (either (draws j.size j.xs p l)
      (λ d. rw d (⊎_elim
      (λ (a : x ≤ p). rw (le-ltb p x a))
      (λ (a : p + index_length j.n j.xs p < x). let b : p + index_length j.n j.xs p ≤ x = omega arith in rw (le-ltb x (p + index_length j.n j.xs p) b) (either (ltb p x) (λ s. rw s) (λ s. rw s))) v))
      (λ d. rw d))

  offers_not : (x : ℕ) → draws j.size j.xs p l ≡ false → offers j p l x false ≡ false
  unfolding offers
  offers_not x d = rw d

  index-offers : (t : Table) (x : ℕ) → Wide t → entry_at (indexed j p l c t) x false ≡ offered x false t
  unfolding offered g
  index-offers t x w =
      either (draws j.size j.xs p l)
      (λ d. rw (indexed-yes t d) (⊎_elim
      (λ (a : x ≤ p). at_none t x (inl a) ∙ rw (offers-none x (inl a)))
      (λ (a : p < x). ⊎_elim
      (λ (b : x < end). at-stop t x w a b ∙ rw (offers-stop x d a b))
      (λ (b : end ≤ x). ⊎_elim
      (λ (o : end < x). at_none t x (inr o) ∙ rw (offers-none x (inr o)))
      (λ (o : x ≤ end). let z : x ≡ end = omega arith in rw z (at-end d t w ∙ rw (offers-end d)))
      (lt_or_le end x))
      (lt_or_le x end))
      (swap (lt_or_le p x))))
      (λ d. rw (indexed_no t d, offers_not x d))
    where
      swap : {A B : Type 0} → A ⊎ B → B ⊎ A
      swap (inl a) = inr a
      swap (inr b) = inl b

  copy_offers : (t : Table) (x : ℕ) → Wide t → entry_at (copied j p l c t) x true ≡ offered x true t
  unfolding offered offers copied
  copy_offers t x w =
      either (may_copy j.size p l)
      (λ m. either (copies j.size j.xs p)
      (λ o.
      let h : p + above_length j.size j.n j.xs p ≤ 1024 = omega (arith, above_le j.size j.n j.xs p (omega arith)) in
      rw (m, o) (either (eqb x (p + above_length j.size j.n j.xs p))
      (λ e. let z : x ≡ p + above_length j.size j.n j.xs p = eqb-true _ _ e in rw (e, z) (relaxed-here t (p + above_length j.size j.n j.xs p) true _ p l w h))
      (λ e. rw e (relaxed_else t (p + above_length j.size j.n j.xs p) true _ p l x true (apart (p + above_length j.size j.n j.xs p) x true true (eqb-false _ _ e))))))
      (λ o. rw (m, o)))
      (λ m. rw m)

  copied-index : (t : Table) (x : ℕ) → entry_at (copied j p l c t) x false ≡ entry_at t x false
  unfolding copied
  copied-index t x =
      either (every (may_copy j.size p l ∷ copies j.size j.xs p ∷ []))
      (λ e. rw e (relaxed_else t (p + above_length j.size j.n j.xs p) true _ p l x false (λ z. omega arith)))
      (λ e. rw e)

  pub both-offers : (t : Table) (x : ℕ) (k : Bool) → Wide t → entry_at (copied j p l c (indexed j p l c t)) x k ≡ pick (offers j p l x k) (better (entry_at t x k) (cost_of j p l c x k) p l) (entry_at t x k)
  unfolding offered
  both-offers t x true w = copy_offers (indexed j p l c t) x (indexed_wide t w) ∙ rw (indexed-above t x)
  both-offers t x false w = copied-index (indexed j p l c t) x ∙ index-offers t x w

  -- an offer goes to a later place
  pub offers-up : (x : ℕ) (k : Bool) → x ≤ p → offers j p l x k ≡ false
  unfolding offers
  offers-up x true h =
      either (copies j.size j.xs p)
      (λ o.
      let d : x ≡ p + above_length j.size j.n j.xs p → ⊥ = λ e. omega (arith, above-yes j.size j.n j.xs p ph o) in
      rw (o, ne_eqb x (p + above_length j.size j.n j.xs p) d) (either (may_copy j.size p l) (λ m. rw m) (λ m. rw m)))
      (λ o. rw o (either (may_copy j.size p l) (λ m. rw m) (λ m. rw m)))
  offers-up x false h = offers-none x (inl h)

-- ---- the whole table

module _ (j : Job) (nh : j.n ≤ 1024) where
  step-offers : (s : ℕ) (t : Table) (x : ℕ) (k : Bool) → s < j.n * 2 → Wide t
      → entry_at (stepped j s t) x k ≡ pick (every (lt (get_or t.cost s nan) infinite ∷ offers j (place_of s) (kind_of s) x k ∷ [])) (better (entry_at t x k) (cost_of j (place_of s) (kind_of s) (get_or t.cost s nan) x k) (place_of s) (kind_of s)) (entry_at t x k)
  unfolding stepped
  step-offers s t x k h w =
      either (lt (get_or t.cost s nan) infinite)
      (λ e. rw e (both-offers j nh (place_of s) (kind_of s) (get_or t.cost s nan) (omega arith) t x k w ∙ either (offers j (place_of s) (kind_of s) x k) (λ o. rw o) (λ o. rw o)))
      (λ e. rw e)

  wide_at : (s : ℕ) → s ≤ j.n * 2 → Wide (swept j s fresh)
  wide_at s h = (swept_sunk j nh s fresh h fresh_sunk).wide

  -- what a slot costs is settled when its turn comes
  settled : (d s : ℕ) → s + d ≤ j.n * 2 → get_or (swept j (s + d) fresh).cost s nan ≡ get_or (swept j s fresh).cost s nan
  unfolding swept
  settled zero s h = rw (add-zero s)
  settled (suc d) s h =
      let z : s + suc d ≡ suc (s + d) = omega arith in
      rw z (same (s + d) s (swept j (s + d) fresh) (omega arith) (omega arith) (wide_at (s + d) (omega arith)) ∙ settled d s (omega arith))
    where
      same : (r s : ℕ) (t : Table) → s ≤ r → r < j.n * 2 → Wide t → get_or (stepped j r t).cost s nan ≡ get_or t.cost s nan
      same r s t a b w =
          let o = offers-up j nh (place_of r) (kind_of r) (get_or t.cost r nan) (omega arith) (place_of s) (kind_of s) (omega arith) in
          let e : entry_at (stepped j r t) (place_of s) (kind_of s) ≡ entry_at t (place_of s) (kind_of s) = step-offers r t (place_of s) (kind_of s) b w ∙ rw o (either (lt (get_or t.cost r nan) infinite) (λ u. rw u) (λ u. rw u)) in
          rw (slot_of s) at (ap (λ (x : Entry). x.cost) e)

  least_at : (q : ℕ) (k : Bool) (s : ℕ) → s ≤ j.n * 2 → entry_at (swept j s fresh) q k ≡ best j (swept j (j.n * 2) fresh) q k s
  unfolding best swept
  least_at q k zero h = refl
  least_at q k (suc s) h =
      let z : s + (j.n * 2 - s) ≡ j.n * 2 = omega arith in
      let c : get_or (swept j (j.n * 2) fresh).cost s nan ≡ get_or (swept j s fresh).cost s nan = rw z at (settled (j.n * 2 - s) s (omega arith)) in
      step-offers s (swept j s fresh) q k (omega arith) (wide_at s (omega arith)) ∙ rw (c, ← least_at q k s (omega arith))

  -- each entry is the first cheapest of its offers
  pub least : (q : ℕ) (k : Bool) → entry_at (swept j (j.n * 2) fresh) q k ≡ best j (swept j (j.n * 2) fresh) q k (j.n * 2)
  least q k = least_at q k (j.n * 2) (le_refl _)
