-- One jump of the loop over the early stops, and that the jumps visit the planner's stops.
use Rattle.std.specs.Prelude.{◌≡◌, Bool, false, List, Float, get_or}
use Rattle.std.proofs.Math.Path.{refl, sym}
use Rattle.std.proofs.Common.{◌∙◌}
use Rattle.std.proofs.Math.Bool.{true}
use Rattle.std.proofs.Math.Logic.{⊎_elim}
use Prim.Native.Nat.{ℕ, zero, suc, ◌+◌, ◌-◌, ◌≤◌, ◌<◌}
use native.Mathlib.Omega.{arith}
use Rattle.std.proofs.Math.Dec.{eqb}
use borrow.Author.Tests.{lt-ltb, le-ltb, eqb-true, eqb-false}
use Rattle.base.specs.Pick.{either, lt_or_le}
use Rattle.h265.specs.Scan.{above_at}
use Rattle.paths.specs.Cells.{index_length, above_length, stops_at}
use Rattle.paths.specs.CellLaws.{index_le, index-some, above_zero, above-some, stops-next}
use Rattle.paths.specs.Stretch.{next_stretch, next_ge, next-end, next-none, next-stops, next_none_after, next_stops_after, stopped-end, stopped-one, stopped-skip}
use Rattle.paths.specs.Plan.{Table, slot, relaxed, stopped}
use Rattle.relax.specs.Jumps.{first_stop, Skips, halted, Within, drawn}

-- ---- one jump

module _ (ss : List ℕ) (end : ℕ) (g : ℕ → Float) (p : ℕ) (k : Bool) where
  pub past : (f q : ℕ) (t : Table) → end ≤ q → halted f ss end g p k q t ≡ t
  unfolding halted
  past zero q t h = refl
  past (suc f) q t h = rw (le-ltb q end h)

  step : (f q : ℕ) (t : Table) → q < end → halted (suc f) ss end g p k q t ≡ halted f ss end g p k (get_or ss (q + 1) 0) (relaxed t (slot q false) (g q) p k)
  unfolding halted
  step f q t l = rw (lt-ltb q end l)

  same : Skips ss end → (f h q : ℕ) (t : Table) → end ≤ f + q → end ≤ h + q → halted f ss end g p k q t ≡ halted h ss end g p k q t
  same s zero h q t a b = past zero q t (omega arith) ∙ sym (past h q t (omega arith))
  same s (suc f) zero q t a b = past (suc f) q t (omega arith) ∙ sym (past zero q t (omega arith))
  same s (suc f) (suc h) q t a b =
      ⊎_elim
      (λ (l : q < end).
      let o = s.on (q + 1) (omega arith) (omega arith) in
      step f q t l ∙ same s f h (get_or ss (q + 1) 0) (relaxed t (slot q false) (g q) p k) (omega arith) (omega arith) ∙ sym (step h q t l))
      (λ (l : end ≤ q). past (suc f) q t l ∙ sym (past (suc h) q t l))
      (lt_or_le q end)

  -- one stop, and fuel that is enough stays enough
  pub jump : Skips ss end → (f q : ℕ) (t : Table) → q < end → end ≤ f + q → halted f ss end g p k q t ≡ halted f ss end g p k (get_or ss (q + 1) 0) (relaxed t (slot q false) (g q) p k)
  jump s zero q t l h = absurd (omega arith)
  jump s (suc f) q t l h =
      let o = s.on (q + 1) (omega arith) (omega arith) in
      step f q t l ∙ same s f (suc f) (get_or ss (q + 1) 0) (relaxed t (slot q false) (g q) p k) (omega arith) (omega arith)

  -- jumps that go from stop to stop visit them all
  pub jumps : (stop : ℕ → Bool) → Skips ss end → (f q : ℕ) (t : Table) → end ≤ f + q → (q < end → stop q ≡ true)
      → ((i : ℕ) → q ≤ i → i < end → (r : ℕ) → i + 1 ≤ r → r < get_or ss (i + 1) 0 → stop r ≡ false)
      → ((i : ℕ) → q ≤ i → i < end → get_or ss (i + 1) 0 < end → stop (get_or ss (i + 1) 0) ≡ true)
      → halted f ss end g p k q t ≡ stopped stop g p k (end - q) q t
  jumps stop s zero q t h here none next = past zero q t (omega arith) ∙ sym (stopped-end stop g p k end q t (omega arith))
  jumps stop s (suc f) q t h here none next =
      ⊎_elim
      (λ (l : q < end).
      let o = s.on (q + 1) (omega arith) (omega arith) in
      step f q t l
      ∙ jumps stop s f (get_or ss (q + 1) 0) (relaxed t (slot q false) (g q) p k) (omega arith) (next q (omega arith) l) (λ i a b r c d. none i (omega arith) b r c d) (λ i a b c. next i (omega arith) b c)
      ∙ sym (stopped-skip stop g p k end (q + 1) (get_or ss (q + 1) 0) (relaxed t (slot q false) (g q) p k) o (λ r a b. none q (omega arith) l r a b))
      ∙ sym (stopped-one stop g p k end q t l (here l)))
      (λ (l : end ≤ q). past (suc f) q t l ∙ sym (stopped-end stop g p k end q t l))
      (lt_or_le q end)

-- ---- bounds

pub skips_less : (ss : List ℕ) (n end : ℕ) → Skips ss n → end ≤ n → Skips ss end
skips_less ss n end s h = record { on = λ x a b. s.on x a (omega arith) }

pub first-low : (al ss : List ℕ) (n p : ℕ) → Skips ss n → p < n → p < first_stop al ss p
unfolding first_stop
first-low al ss n p s h =
    either (eqb (get_or al (p + 1) 0) 0)
    (λ e. rw e (omega (arith, s.on (p + 1) (omega arith) (omega arith))))
    (λ e. rw e (omega arith))

-- ---- with the tables of the cells

-- what the tables hold: the cells above, how far an index goes on, how many cells can be copied, where the next stretch begins
pub record Tables (size n : ℕ) (xs above il al ss : List ℕ) : Type 0 where
  pub above_is : (i : ℕ) → i < n → get_or above i 0 ≡ above_at size xs i
  pub il_is : (i : ℕ) → i < n → get_or il i 0 ≡ index_length n xs i
  pub al_is : (i : ℕ) → i ≤ n → get_or al i 0 ≡ above_length size n xs i
  pub ss_is : (i : ℕ) → 1 ≤ i → i ≤ n → get_or ss i 0 ≡ next_stretch size n xs i

module _ (size n : ℕ) (xs above il al ss : List ℕ) (t : Tables size n xs above il al ss) (p : ℕ) (ph : p < n) where
  skips : (end : ℕ) → end ≤ n → Skips ss end
  skips end h = record { on = λ x a b. rw (t.ss_is x a (omega arith)) (next_ge size n xs x) }

  pub tables_within : Within il al ss n p
  tables_within = record {
    low = rw (t.il_is p ph) (index-some n xs p ph);
    high = rw (t.il_is p ph) (index_le n xs p (omega arith));
    skips = skips n (omega arith);
  }

  first_after : p < first_stop al ss p
  first_after = first-low al ss n p (skips n (omega arith)) ph

  first_none : (end : ℕ) → end ≤ n → (i : ℕ) → p + 1 ≤ i → i < first_stop al ss p → stops_at size xs p i ≡ false
  unfolding first_stop
  first_none end h i a b =
      either (eqb (get_or al (p + 1) 0) 0)
      (λ e. ⊎_elim
      (λ (l : p + 1 < n). next_none_after size n xs p i (above_zero size n xs (p + 1) l (sym (t.al_is (p + 1) (omega arith)) ∙ eqb-true _ _ e)) a (rw (e, t.ss_is (p + 1) (omega arith) (omega arith)) at b))
      (λ (l : n ≤ p + 1). let z : p + 1 ≡ n = omega arith in absurd (omega (arith, rw (e, t.ss_is (p + 1) (omega arith) (omega arith), z, next-end size n xs) at b)))
      (lt_or_le (p + 1) n))
      (λ e. let o : i < p + 1 = rw e at b in absurd (omega arith))

  first_stops : first_stop al ss p < n → stops_at size xs p (first_stop al ss p) ≡ true
  unfolding first_stop
  first_stops h =
      either (eqb (get_or al (p + 1) 0) 0)
      (λ e. rw (e, t.ss_is (p + 1) (omega arith) (omega arith)) (yes e (rw (e, t.ss_is (p + 1) (omega arith) (omega arith)) at h)))
      (λ e. let o : p + 1 < n = rw e at h in rw e (stops-next size xs p (p + 1) refl ∙ above-some size n xs (p + 1) o (λ z. eqb-false _ _ e (t.al_is (p + 1) (omega arith) ∙ z))))
    where
      yes : eqb (get_or al (p + 1) 0) 0 ≡ true → next_stretch size n xs (p + 1) < n → stops_at size xs p (next_stretch size n xs (p + 1)) ≡ true
      yes e o = next_stops_after size n xs p (above_zero size n xs (p + 1) (omega (arith, next_ge size n xs (p + 1))) (sym (t.al_is (p + 1) (omega arith)) ∙ eqb-true _ _ e)) (omega arith) o

  -- the table of jumps gives the planner's index runs
  pub drawn_is : (g : ℕ → Float) (k : Bool) (u : Table)
      → drawn il al ss g p k u ≡ relaxed (stopped (stops_at size xs p) g p k (p + index_length n xs p - (p + 1)) (p + 1) u) (slot (p + index_length n xs p) false) (g (p + index_length n xs p)) p k
  unfolding drawn
  drawn_is g k u =
      let high = index_le n xs p (omega arith) in
      let e : halted (p + index_length n xs p) ss (p + index_length n xs p) g p k (first_stop al ss p) u ≡ stopped (stops_at size xs p) g p k (p + index_length n xs p - (p + 1)) (p + 1) u =
      jumps ss (p + index_length n xs p) g p k (stops_at size xs p) (skips (p + index_length n xs p) high) (p + index_length n xs p) (first_stop al ss p) u (omega arith)
      (λ l. first_stops (omega arith))
      (λ i a b r c d. next-none size n xs p (i + 1) r (omega (arith, first_after)) c (rw (t.ss_is (i + 1) (omega arith) (omega arith)) at d))
      (λ i a b c. rw (t.ss_is (i + 1) (omega arith) (omega arith)) (next-stops size n xs p (i + 1) (omega (arith, first_after)) (omega arith) (omega (arith, rw (t.ss_is (i + 1) (omega arith) (omega arith)) at c))))
      ∙ sym (stopped-skip (stops_at size xs p) g p k (p + index_length n xs p) (p + 1) (first_stop al ss p) u (omega (arith, first_after)) (λ i a b. first_none n (omega arith) i a b)) in
      rw (t.il_is p ph, e)
