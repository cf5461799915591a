-- Where the next stretch of cells that can be copied begins, by which the planner goes from one early stop to the next.
use Rattle.std.specs.Prelude.{◌≡◌, refl, Bool, true, false, not, List, [], ◌∷◌, eqb, ltb, Float, get_or}
use Rattle.std.proofs.Common.{ap, sym, ◌∙◌, add-zero, lt-ltb, le-ltb, eqb-true}
use Rattle.std.proofs.Math.Logic.{⊎_elim}
use Prim.Native.Nat.{ℕ, zero, suc, ◌+◌, ◌*◌, ◌-◌, ◌≤◌, ◌<◌}
use Rattle.std.proofs.Math.Numerals.{add-one}
use native.Mathlib.Omega.{arith}
use Rattle.std.proofs.lemmas.Bool.{eqb-false}
use Rattle.base.specs.Pick.{pick, either, true_false, lt_or_le}
use Rattle.base.specs.Tests.{every}
use Rattle.paths.specs.Cells.{copies, stops_at}
use Rattle.paths.specs.CellLaws.{stops-next, stops-yes, stops_not, stops-inside}
use Rattle.paths.specs.Plan.{Table, slot, relaxed, stopped}

-- the first of the k cells from i on that passes a test, i + k where none does
unfoldable pub first_from : (ℕ → Bool) → ℕ → ℕ → ℕ
first_from f zero i = i
first_from f (suc k) i = let more : ℕ = first_from f k (suc i) in pick (f i) i more

unfoldable pub begins : ℕ → List ℕ → ℕ → Bool
begins size xs i = every (copies size xs i ∷ not (copies size xs (i - 1)) ∷ [])

unfoldable pub next_stretch : ℕ → ℕ → List ℕ → ℕ → ℕ
next_stretch size n xs i = first_from (begins size xs) (n - i) i

module _ (f : ℕ → Bool) where
  first_ge : (k i : ℕ) → i ≤ first_from f k i
  unfolding first_from
  first_ge zero i = omega arith
  first_ge (suc k) i = either (f i) (λ t. rw t (omega arith)) (λ t. rw t (omega (arith, first_ge k (suc i))))

  first_le : (k i : ℕ) → first_from f k i ≤ i + k
  unfolding first_from
  first_le zero i = omega arith
  first_le (suc k) i = either (f i) (λ t. rw t (omega arith)) (λ t. rw t (omega (arith, first_le k (suc i))))

  first_none : (k i q : ℕ) → i ≤ q → q < first_from f k i → f q ≡ false
  unfolding first_from
  first_none zero i q h g = absurd (omega arith)
  first_none (suc k) i q h g =
      either (f i)
      (λ t. let o : q < i = rw t at g in absurd (omega arith))
      (λ t.
      let o : q < first_from f k (suc i) = rw t at g in
      ⊎_elim (λ (l : i < q). first_none k (suc i) q l o) (λ (l : q ≤ i). let e : q ≡ i = omega arith in rw e t) (lt_or_le i q))

  first-here : (k i : ℕ) → first_from f k i < i + k → f (first_from f k i) ≡ true
  unfolding first_from
  first-here zero i h = absurd (omega arith)
  first-here (suc k) i h =
      either (f i)
      (λ t. rw (t, t))
      (λ t. let o : first_from f k (suc i) < i + suc k = rw t at h in rw t (first-here k (suc i) (omega arith)))

  first-yes : (k i : ℕ) → 0 < k → f i ≡ true → first_from f k i ≡ i
  unfolding first_from
  first-yes zero i h t = absurd (omega arith)
  first-yes (suc k) i h t = rw t

  first_no : (k i : ℕ) → 0 < k → f i ≡ false → first_from f k i ≡ first_from f (k - 1) (i + 1)
  unfolding first_from
  first_no zero i h t = absurd (omega arith)
  first_no (suc k) i h t = let e : suc k - 1 ≡ k = omega arith in rw (t, e, add-one i)

begins-yes : (size : ℕ) (xs : List ℕ) (i : ℕ) → copies size xs i ≡ true → copies size xs (i - 1) ≡ false → begins size xs i ≡ true
unfolding begins
begins-yes size xs i t u = rw (t, u)

begins_not : (size : ℕ) (xs : List ℕ) (i : ℕ) → copies size xs i ≡ false → begins size xs i ≡ false
unfolding begins
begins_not size xs i t = rw t

begins-inside : (size : ℕ) (xs : List ℕ) (i : ℕ) → copies size xs (i - 1) ≡ true → begins size xs i ≡ false
unfolding begins
begins-inside size xs i t = either (copies size xs i) (λ u. rw (u, t)) (λ u. rw u)

module _ (size n : ℕ) (xs : List ℕ) where
  pub next_ge : (i : ℕ) → i ≤ next_stretch size n xs i
  unfolding next_stretch
  next_ge i = first_ge (begins size xs) (n - i) i

  pub next-end : next_stretch size n xs n ≡ n
  unfolding next_stretch first_from
  next-end = let e : n - n ≡ 0 = omega arith in rw e

  -- at a cell, from what is known of the cell after
  pub next-begins : (i : ℕ) → i < n → copies size xs i ≡ true → copies size xs (i - 1) ≡ false → next_stretch size n xs i ≡ i
  unfolding next_stretch
  next-begins i h t u = first-yes (begins size xs) (n - i) i (omega arith) (begins-yes size xs i t u)

  pub next_not : (i : ℕ) → i < n → copies size xs i ≡ false → next_stretch size n xs i ≡ next_stretch size n xs (i + 1)
  unfolding next_stretch
  next_not i h t = let e : n - i - 1 ≡ n - (i + 1) = omega arith in first_no (begins size xs) (n - i) i (omega arith) (begins_not size xs i t) ∙ rw e

  pub next-inside : (i : ℕ) → i < n → copies size xs (i - 1) ≡ true → next_stretch size n xs i ≡ next_stretch size n xs (i + 1)
  unfolding next_stretch
  next-inside i h t = let e : n - i - 1 ≡ n - (i + 1) = omega arith in first_no (begins size xs) (n - i) i (omega arith) (begins-inside size xs i t) ∙ rw e

  -- past the cell after p the stops are where stretches begin
  stops-begins : (p q : ℕ) → p + 1 < q → stops_at size xs p q ≡ begins size xs q
  unfolding begins
  stops-begins p q h =
      let d : q ≡ p + 1 → ⊥ = λ e. omega arith in
      either (copies size xs q)
      (λ t. either (copies size xs (q - 1)) (λ u. rw (stops-inside size xs p q d u, t, u)) (λ u. rw (stops-yes size xs p q t u, t, u)))
      (λ t. rw (stops_not size xs p q t, t))

  next-found : (i : ℕ) → i ≤ n → next_stretch size n xs i < n → begins size xs (next_stretch size n xs i) ≡ true
  unfolding next_stretch
  next-found i h g = first-here (begins size xs) (n - i) i (omega arith)

  pub next-none : (p i q : ℕ) → p + 1 < i → i ≤ q → q < next_stretch size n xs i → stops_at size xs p q ≡ false
  unfolding next_stretch
  next-none p i q o h g = stops-begins p q (omega arith) ∙ first_none (begins size xs) (n - i) i q h g

  pub next-stops : (p i : ℕ) → p + 1 < i → i ≤ n → next_stretch size n xs i < n → stops_at size xs p (next_stretch size n xs i) ≡ true
  next-stops p i o h g = stops-begins p (next_stretch size n xs i) (omega (arith, next_ge i)) ∙ next-found i h g

  -- after a cell that cannot be copied
  pub next_none_after : (p q : ℕ) → copies size xs (p + 1) ≡ false → p + 1 ≤ q → q < next_stretch size n xs (p + 1) → stops_at size xs p q ≡ false
  unfolding next_stretch
  next_none_after p q t h g =
      ⊎_elim
      (λ (l : p + 1 < q). stops-begins p q l ∙ first_none (begins size xs) (n - (p + 1)) (p + 1) q h g)
      (λ (l : q ≤ p + 1). let e : q ≡ p + 1 = omega arith in stops_not size xs p q (rw e t))
      (lt_or_le (p + 1) q)

  pub next_stops_after : (p : ℕ) → copies size xs (p + 1) ≡ false → p + 1 ≤ n → next_stretch size n xs (p + 1) < n → stops_at size xs p (next_stretch size n xs (p + 1)) ≡ true
  next_stops_after p t h g =
      let b = next-found (p + 1) h g in
      ⊎_elim
      (λ (l : p + 1 < next_stretch size n xs (p + 1)). stops-begins p (next_stretch size n xs (p + 1)) l ∙ b)
      (λ (l : next_stretch size n xs (p + 1) ≤ p + 1).
      let e : next_stretch size n xs (p + 1) ≡ p + 1 = omega (arith, next_ge (p + 1)) in
      absurd (true_false (sym b ∙ rw e (begins_not size xs (p + 1) t))))
      (lt_or_le (p + 1) (next_stretch size n xs (p + 1)))

-- ---- the stops, from one to the next

module _ (stop : ℕ → Bool) (g : ℕ → Float) (p : ℕ) (k : Bool) (end : ℕ) where
  pub stopped-end : (q : ℕ) (t : Table) → end ≤ q → stopped stop g p k (end - q) q t ≡ t
  unfolding stopped
  stopped-end q t h = let e : end - q ≡ 0 = omega arith in rw e

  stopped-step : (q : ℕ) (t : Table) → q < end → stopped stop g p k (end - q) q t ≡ stopped stop g p k (end - (q + 1)) (q + 1) (pick (stop q) (relaxed t (slot q false) (g q) p k) t)
  unfolding stopped
  stopped-step q t h = let e : end - q ≡ suc (end - (q + 1)) = omega arith in rw (e, add-one q)

  pub stopped-one : (q : ℕ) (t : Table) → q < end → stop q ≡ true → stopped stop g p k (end - q) q t ≡ stopped stop g p k (end - (q + 1)) (q + 1) (relaxed t (slot q false) (g q) p k)
  stopped-one q t h s = stopped-step q t h ∙ rw s

  -- over cells that are no stops
  skip : (d q : ℕ) (t : Table) → ((i : ℕ) → q ≤ i → i < q + d → stop i ≡ false) → stopped stop g p k (end - q) q t ≡ stopped stop g p k (end - (q + d)) (q + d) t
  skip zero q t h = rw (add-zero q)
  skip (suc d) q t h =
      let e : q + suc d ≡ q + 1 + d = omega arith in
      ⊎_elim
      (λ (l : q < end). stopped-step q t l ∙ rw (h q (omega arith) (omega arith), e) (skip d (q + 1) t (λ i a b. h i (omega arith) (omega arith))))
      (λ (l : end ≤ q). stopped-end q t l ∙ sym (stopped-end (q + suc d) t (omega arith)))
      (lt_or_le q end)

  pub stopped-skip : (q r : ℕ) (t : Table) → q ≤ r → ((i : ℕ) → q ≤ i → i < r → stop i ≡ false) → stopped stop g p k (end - q) q t ≡ stopped stop g p k (end - r) r t
  stopped-skip q r t h n =
      let e : q + (r - q) ≡ r = omega arith in
      rw e at (skip (r - q) q t (λ i a b. n i a (omega arith)))
