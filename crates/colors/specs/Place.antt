-- Where a number first stands in a list, and the list of numbers met, each once.
use Rattle.std.specs.Prelude.{◌≡◌, ℕ, suc, ◌+◌, ◌<◌, ◌≤◌, List, [], ◌∷◌, ◌++◌, length, ◌==◌, ◌≢◌, nat_lt, slice_index, refl}
use Rattle.std.proofs.Common.{⊎_elim, ◌∙◌, ap, arith, eq-eqb, ne_eqb, lt-ltb, le-ltb, length-append}
use Rattle.std.proofs.Math.ListN.{get_or-append}
use Rattle.std.proofs.Math.Seq.{get_or-append_seam}
use Rattle.base.specs.Pick.{pick, lt_or_le, eq_or_ne}

-- the place of k in the list: the first, or the list's length where it is not there
unfoldable pub place_of : ℕ → List ℕ → ℕ
place_of k [] = 0
place_of k (x ∷ xs) = pick (x == k) 0 (suc (place_of k xs))

place_here : (k x : ℕ) (xs : List ℕ) → x ≡ k → place_of k (x ∷ xs) ≡ 0
unfolding place_of
place_here k x xs e = rw (eq-eqb x k e)

place_on : (k x : ℕ) (xs : List ℕ) → (x ≢ k) → place_of k (x ∷ xs) ≡ suc (place_of k xs)
unfolding place_of
place_on k x xs n = rw (ne_eqb x k n)

pub place_le : (k : ℕ) (xs : List ℕ) → place_of k xs ≤ length xs
unfolding place_of
place_le k [] = omega arith
place_le k (x ∷ xs) =
    ⊎_elim (λ (e : x ≡ k). omega (arith, place_here k x xs e)) (λ (n : x ≡ k → ⊥). omega (arith, place_on k x xs n, place_le k xs)) (eq_or_ne x k)

-- what stands at the place is the number
pub place_at : (k : ℕ) (xs : List ℕ) → place_of k xs < length xs → slice_index xs (place_of k xs) ≡ k
unfolding place_of
place_at k [] h = absurd (omega arith)
place_at k (x ∷ xs) h =
    ⊎_elim (λ (e : x ≡ k). rw (eq-eqb x k e) e) (λ (n : x ≡ k → ⊥). rw (ne_eqb x k n) (place_at k xs (omega (arith, place_on k x xs n)))) (eq_or_ne x k)

-- a list that goes on keeps the places that it has
pub place_kept : (k : ℕ) (xs ys : List ℕ) → place_of k xs < length xs → place_of k (xs ++ ys) ≡ place_of k xs
unfolding place_of
place_kept k [] ys h = absurd (omega arith)
place_kept k (x ∷ xs) ys h =
    ⊎_elim (λ (e : x ≡ k). rw (eq-eqb x k e)) (λ (n : x ≡ k → ⊥). rw (ne_eqb x k n) (ap suc (place_kept k xs ys (omega (arith, place_on k x xs n))))) (eq_or_ne x k)

-- a number that is not there yet goes to the end
pub place_new : (k : ℕ) (xs : List ℕ) → place_of k xs ≡ length xs → place_of k (xs ++ (k ∷ [])) ≡ length xs
unfolding place_of
place_new k [] h = place_here k k [] refl
place_new k (x ∷ xs) h =
    ⊎_elim (λ (e : x ≡ k). absurd (omega (arith, place_here k x xs e))) (λ (n : x ≡ k → ⊥). rw (ne_eqb x k n) (ap suc (place_new k xs (omega (arith, place_on k x xs n))))) (eq_or_ne x k)

-- another number is there exactly when it was
pub place_other : (k j : ℕ) (xs : List ℕ) → (j ≢ k) → place_of k (xs ++ (j ∷ [])) < length xs + 1 → place_of k xs < length xs
unfolding place_of
place_other k j [] n h = absurd (omega (arith, place_on k j [] n))
place_other k j (x ∷ xs) n h =
    ⊎_elim (λ (e : x ≡ k). omega (arith, place_here k x xs e))
    (λ (m : x ≡ k → ⊥). omega (arith, place_on k x xs m, place_other k j xs n (omega (arith, place_on k x (xs ++ (j ∷ [])) m)))) (eq_or_ne x k)

-- each number stands in the list once
abbrev pub Distinct : List ℕ → Type 0
Distinct ms = (e : ℕ) → e < length ms → place_of (slice_index ms e) ms ≡ e

pub distinct_more : (ms : List ℕ) (k : ℕ) → place_of k ms ≡ length ms → Distinct ms → Distinct (ms ++ (k ∷ []))
distinct_more ms k n d e h =
    ⊎_elim (λ (l : e < length ms). let q = d e l in rw (get_or-append ms (k ∷ []) 0 e l) (place_kept (slice_index ms e) ms (k ∷ []) (omega arith) ∙ q))
    (λ (l : length ms ≤ e). let q : e ≡ length ms = omega (arith, length-append ms (k ∷ [])) in rw (q, get_or-append_seam ms k [] 0) (place_new k ms n)) (lt_or_le e (length ms))

-- ---- the numbers met

-- one more looked at: a new one goes to the end
unfoldable pub seen : List ℕ → ℕ → List ℕ
seen ms key = pick (nat_lt (place_of key ms) (length ms)) ms (ms ++ (key ∷ []))

pub seen_old : (ms : List ℕ) (k : ℕ) → place_of k ms < length ms → seen ms k ≡ ms
unfolding seen
seen_old ms k h = rw (lt-ltb _ _ h)

pub seen_new : (ms : List ℕ) (k : ℕ) → length ms ≤ place_of k ms → seen ms k ≡ ms ++ (k ∷ [])
unfolding seen
seen_new ms k h = rw (le-ltb _ _ h)

-- a list that a number joins grows by one or not at all
pub seen-length : (ms : List ℕ) (k : ℕ) → (length ms ≤ length (seen ms k)) × (length (seen ms k) ≤ length ms + 1)
seen-length ms k =
    ⊎_elim (λ (h : place_of k ms < length ms). rw (seen_old ms k h) (omega arith, omega arith)) (λ (h : length ms ≤ place_of k ms). rw (seen_new ms k h, length-append) (omega arith, omega arith))
    (lt_or_le (place_of k ms) (length ms))

-- a number seen is there
pub seen_has : (ms : List ℕ) (k : ℕ) → place_of k (seen ms k) < length (seen ms k)
seen_has ms k =
    ⊎_elim (λ (h : place_of k ms < length ms). rw (seen_old ms k h) h)
    (λ (h : length ms ≤ place_of k ms). rw (seen_new ms k h, place_new k ms (omega (arith, place_le k ms)), length-append) (omega arith)) (lt_or_le (place_of k ms) (length ms))

pub seen-keeps : (ms : List ℕ) (k j : ℕ) → place_of j ms < length ms → place_of j (seen ms k) < length (seen ms k)
seen-keeps ms k j w =
    ⊎_elim (λ (h : place_of k ms < length ms). rw (seen_old ms k h) w)
    (λ (h : length ms ≤ place_of k ms). rw (seen_new ms k h, place_kept j ms (k ∷ []) w, length-append) (omega arith)) (lt_or_le (place_of k ms) (length ms))
