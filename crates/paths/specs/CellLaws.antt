-- How far the planner's runs go: the cells they cover, where they end, and both lengths from that of the cell after.
use Rattle.std.specs.Prelude.{◌≡◌, true, not, List, [], ◌∷◌, leb, get_or}
use Rattle.std.proofs.Math.Path.{refl}
use Rattle.std.proofs.Common.{ap, sym, ◌∙◌}
use Rattle.std.proofs.Math.Bool.{Bool, false}
use Prim.Native.Nat.{ℕ, zero, suc, ◌+◌, ◌-◌, ◌≤◌, ◌<◌}
use Rattle.std.proofs.Math.Nat.{add-zero}
use Rattle.std.proofs.Math.Numerals.{add-one}
use native.Mathlib.Omega.{arith}
use Rattle.std.proofs.Math.Dec.{eqb}
use borrow.Author.Tests.{eq-eqb, ne_eqb, eqb-true, eqb-false, le-leb, lt-leb, leb-true}
use Rattle.base.specs.Pick.{pick, either, true_false}
use Rattle.h265.specs.Scan.{above_at}
use Rattle.syntax.specs.Replay.{reference}
use Rattle.paths.specs.Cells.{copies, lasts, index_length, above_length, draws_from, draws, stops_at}

-- ---- the cells that pass a test

module _ (f : ℕ → Bool) where
  pub lasts_le : (k i : ℕ) → lasts f k i ≤ k
  unfolding lasts
  lasts_le zero i = omega arith
  lasts_le (suc k) i = either (f i) (λ t. rw t (omega (arith, lasts_le k (suc i)))) (λ t. rw t (omega arith))

  pub lasts-all : (k i j : ℕ) → j < lasts f k i → f (i + j) ≡ true
  unfolding lasts
  lasts-all zero i j h = absurd (omega arith)
  lasts-all (suc k) i zero h = rw (add-zero i) (either (f i) (λ t. t) (λ t. let o : 0 < 0 = rw t at h in absurd (omega arith)))
  lasts-all (suc k) i (suc j) h =
      let e : i + suc j ≡ suc i + j = omega arith in
      rw e (either (f i)
      (λ t. let o : suc j < suc (lasts f k (suc i)) = rw t at h in lasts-all k (suc i) j (omega arith))
      (λ t. let o : suc j < 0 = rw t at h in absurd (omega arith)))

  pub lasts-stop : (k i : ℕ) → lasts f k i < k → f (i + lasts f k i) ≡ false
  unfolding lasts
  lasts-stop zero i h = absurd (omega arith)
  lasts-stop (suc k) i h =
      either (f i)
      (λ t.
      let o : suc (lasts f k (suc i)) < suc k = rw t at h in
      let e : i + suc (lasts f k (suc i)) ≡ suc i + lasts f k (suc i) = omega arith in
      rw (t, e) (lasts-stop k (suc i) (omega arith)))
      (λ t. rw (t, add-zero i) t)

  pub lasts-yes : (k i : ℕ) → 0 < k → f i ≡ true → lasts f k i ≡ lasts f (k - 1) (i + 1) + 1
  unfolding lasts
  lasts-yes zero i h t = absurd (omega arith)
  lasts-yes (suc k) i h t = let e : suc k - 1 ≡ k = omega arith in rw (t, e, add-one i) (sym (add-one (lasts f k (suc i))))

  pub lasts_no : (k i : ℕ) → f i ≡ false → lasts f k i ≡ 0
  unfolding lasts
  lasts_no zero i t = refl
  lasts_no (suc k) i t = rw t

-- ---- index runs

module _ (n : ℕ) (xs : List ℕ) (p : ℕ) where
  pub index_le : p ≤ n → p + index_length n xs p ≤ n
  unfolding index_length
  index_le h = omega (arith, lasts_le (λ i. eqb (get_or xs i 0) (get_or xs p 0)) (n - p) p)

  pub index-cells : (j : ℕ) → j < index_length n xs p → get_or xs (p + j) 0 ≡ get_or xs p 0
  unfolding index_length
  index-cells j h = eqb-true (get_or xs (p + j) 0) (get_or xs p 0) (lasts-all (λ i. eqb (get_or xs i 0) (get_or xs p 0)) (n - p) p j h)

  pub index_ends : p ≤ n → p + index_length n xs p < n → get_or xs (p + index_length n xs p) 0 ≡ get_or xs p 0 → ⊥
  unfolding index_length
  index_ends h g = eqb-false _ _ (lasts-stop (λ i. eqb (get_or xs i 0) (get_or xs p 0)) (n - p) p (omega arith))

  pub index_same : p + 1 < n → get_or xs p 0 ≡ get_or xs (p + 1) 0 → index_length n xs p ≡ index_length n xs (p + 1) + 1
  unfolding index_length
  index_same h e =
      let o : n - p - 1 ≡ n - (p + 1) = omega arith in
      lasts-yes (λ i. eqb (get_or xs i 0) (get_or xs p 0)) (n - p) p (omega arith) (eq-eqb (get_or xs p 0) (get_or xs p 0) refl) ∙ rw (o, e)

  pub index-last : p + 1 ≡ n → index_length n xs p ≡ 1
  unfolding index_length lasts
  index-last h =
      let o : n - p ≡ 1 = omega arith in
      rw (o, eq-eqb (get_or xs p 0) (get_or xs p 0) refl)

  pub index-other : p + 1 < n → (get_or xs p 0 ≡ get_or xs (p + 1) 0 → ⊥) → index_length n xs p ≡ 1
  unfolding index_length
  index-other h d =
      let f : ℕ → Bool = λ i. eqb (get_or xs i 0) (get_or xs p 0) in
      let z : eqb (get_or xs (p + 1) 0) (get_or xs p 0) ≡ false = ne_eqb _ _ (λ e. d (sym e)) in
      lasts-yes (λ i. eqb (get_or xs i 0) (get_or xs p 0)) (n - p) p (omega arith) (eq-eqb (get_or xs p 0) (get_or xs p 0) refl)
      ∙ rw (lasts_no (λ i. eqb (get_or xs i 0) (get_or xs p 0)) (n - p - 1) (p + 1) z)

  pub index-some : p < n → 1 ≤ index_length n xs p
  unfolding index_length
  index-some h = omega (arith, lasts-yes (λ i. eqb (get_or xs i 0) (get_or xs p 0)) (n - p) p (omega arith) (eq-eqb (get_or xs p 0) (get_or xs p 0) refl))

-- ---- copy-above runs

module _ (size n : ℕ) (xs : List ℕ) (p : ℕ) where
  pub above_le : p ≤ n → p + above_length size n xs p ≤ n
  unfolding above_length
  above_le h = omega (arith, lasts_le (copies size xs) (n - p) p)

  pub above-cells : (j : ℕ) → j < above_length size n xs p → copies size xs (p + j) ≡ true
  unfolding above_length
  above-cells j h = lasts-all (copies size xs) (n - p) p j h

  pub above_ends : p ≤ n → p + above_length size n xs p < n → copies size xs (p + above_length size n xs p) ≡ false
  unfolding above_length
  above_ends h g = lasts-stop (copies size xs) (n - p) p (omega arith)

  pub above-yes : p < n → copies size xs p ≡ true → above_length size n xs p ≡ above_length size n xs (p + 1) + 1
  unfolding above_length
  above-yes h t = let o : n - p - 1 ≡ n - (p + 1) = omega arith in lasts-yes (copies size xs) (n - p) p (omega arith) t ∙ rw o

  pub above_no : copies size xs p ≡ false → above_length size n xs p ≡ 0
  unfolding above_length
  above_no t = lasts_no (copies size xs) (n - p) p t

  -- the length says whether p can be copied
  pub above_zero : p < n → above_length size n xs p ≡ 0 → copies size xs p ≡ false
  above_zero h e = either (copies size xs p) (λ t. absurd (omega (arith, above-yes h t))) (λ t. t)

  pub above-some : p < n → (above_length size n xs p ≡ 0 → ⊥) → copies size xs p ≡ true
  above-some h e = either (copies size xs p) (λ t. t) (λ t. absurd (e (above_no t)))

-- ---- one cell

module _ (size : ℕ) (xs : List ℕ) (i : ℕ) where
  pub copies-row : copies size xs i ≡ true → size ≤ i
  unfolding copies
  copies-row t = either (leb size i) (λ u. leb-true size i u) (λ u. absurd (true_false (sym t ∙ rw u)))

  pub copies-same : copies size xs i ≡ true → get_or xs i 0 ≡ above_at size xs i
  unfolding copies
  copies-same t =
      either (leb size i)
      (λ u. either (eqb (get_or xs i 0) (above_at size xs i)) (λ v. eqb-true _ _ v) (λ v. absurd (true_false (sym t ∙ rw (u, v)))))
      (λ u. absurd (true_false (sym t ∙ rw u)))

  pub copies-yes : size ≤ i → get_or xs i 0 ≡ above_at size xs i → copies size xs i ≡ true
  unfolding copies
  copies-yes h e = rw (le-leb size i h, eq-eqb (get_or xs i 0) (above_at size xs i) e)

  pub copies-low : i < size → copies size xs i ≡ false
  unfolding copies
  copies-low h = rw (lt-leb size i h)

  pub copies-other : (get_or xs i 0 ≡ above_at size xs i → ⊥) → copies size xs i ≡ false
  unfolding copies
  copies-other d = either (leb size i) (λ u. rw (u, ne_eqb (get_or xs i 0) (above_at size xs i) d)) (λ u. rw u)

-- ---- the reference of an index run

pub reference-above : (size : ℕ) (xs : List ℕ) (p : ℕ) → reference size true xs p ≡ above_at size xs p
unfolding reference
reference-above size xs p = refl

pub reference-before : (size : ℕ) (xs : List ℕ) (p : ℕ) → reference size false xs p ≡ get_or xs (p - 1) 0
unfolding reference
reference-before size xs p = refl

-- ---- where an index run may start

module _ (size : ℕ) (xs : List ℕ) (p : ℕ) (k : Bool) where
  pub draws_first : p ≡ 0 → draws size xs p k ≡ true
  unfolding draws_from
  draws_first e = rw (eq-eqb p 0 e)

  pub draws-yes : 0 < p → (get_or xs p 0 ≡ reference size k xs p → ⊥) → draws size xs p k ≡ true
  unfolding draws_from
  draws-yes h d = let z : p ≡ 0 → ⊥ = λ e. omega arith in rw (ne_eqb p 0 z, ne_eqb (get_or xs p 0) (reference size k xs p) d)

  pub draws_no : 0 < p → get_or xs p 0 ≡ reference size k xs p → draws size xs p k ≡ false
  unfolding draws_from
  draws_no h e = let z : p ≡ 0 → ⊥ = λ e. omega arith in rw (ne_eqb p 0 z, eq-eqb (get_or xs p 0) (reference size k xs p) e)

  pub draws_differs : 0 < p → draws size xs p k ≡ true → get_or xs p 0 ≡ reference size k xs p → ⊥
  draws_differs h t e = true_false (sym t ∙ draws_no h e)

-- ---- where it may stop

module _ (size : ℕ) (xs : List ℕ) (p q : ℕ) where
  pub stops-next : q ≡ p + 1 → stops_at size xs p q ≡ copies size xs q
  unfolding stops_at
  stops-next e = rw (eq-eqb q (p + 1) e) (either (copies size xs q) (λ t. rw t) (λ t. rw t))

  pub stops-yes : copies size xs q ≡ true → copies size xs (q - 1) ≡ false → stops_at size xs p q ≡ true
  unfolding stops_at
  stops-yes t u = rw (t, u) (either (eqb q (p + 1)) (λ v. rw v) (λ v. rw v))

  pub stops_not : copies size xs q ≡ false → stops_at size xs p q ≡ false
  unfolding stops_at
  stops_not t = rw t

  pub stops-inside : (q ≡ p + 1 → ⊥) → copies size xs (q - 1) ≡ true → stops_at size xs p q ≡ false
  unfolding stops_at
  stops-inside d t = rw (ne_eqb q (p + 1) d, t) (either (copies size xs q) (λ u. rw u) (λ u. rw u))

  pub stops-copies : stops_at size xs p q ≡ true → copies size xs q ≡ true
  stops-copies t = either (copies size xs q) (λ u. u) (λ u. absurd (true_false (sym t ∙ stops_not u)))
