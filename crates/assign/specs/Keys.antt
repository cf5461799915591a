-- Distance and number of an entry in one number, whose least is that of the nearest entry, the lowest on ties.
use Rattle.std.specs.Prelude.{List, ◌≡◌, ℕ, zero, suc, ◌+◌, ◌-◌, ◌*◌, ◌/◌, ◌%◌, ◌≤◌, ◌<◌, min, max, ltb, get_or, replicate}
use Rattle.std.proofs.Common.{⊎_elim, ap, sym, ◌∙◌, arith, lt-ltb, le-ltb}
use Rattle.std.proofs.lemmas.List.{length-replicate}
use Rattle.base.specs.Pick.{pick, lt_or_le}
use Rattle.base.specs.Cells.{laid, laid_in}
use Rattle.quant.specs.Quant.{gap, y_of, u_of, v_of, dist}
use Rattle.assign.specs.Assign.{nearest_to, index_of}
use Rattle.assign.specs.Laws.{nearest_none, nearer_suc, same_suc, best, nearest_lt, index-near, index-far}

-- entry k of n, past them the first
abbrev pub held_of : List ℕ → ℕ → ℕ → ℕ
held_of ps n k = get_or ps (pick (ltb k n) k 0) 0

pub held_in : (ps : List ℕ) (n k : ℕ) → k < n → get_or ps k 0 ≡ held_of ps n k
held_in ps n k h = rw (lt-ltb k n h)

pub held-past : (ps : List ℕ) (n k : ℕ) → n ≤ k → get_or ps 0 0 ≡ held_of ps n k
held-past ps n k h = rw (le-ltb k n h)

pub one_less : (k : ℕ) → k < 64 → 64 - (k + 1) < 64 - k
one_less k h = omega arith

-- ---- components

pub record Split (ps : List ℕ) (n : ℕ) (ys us vs : List ℕ) : Type 0 where
  pub y : (k : ℕ) → k < 64 → get_or ys k 0 ≡ y_of (held_of ps n k)
  pub u : (k : ℕ) → k < 64 → get_or us k 0 ≡ u_of (held_of ps n k)
  pub v : (k : ℕ) → k < 64 → get_or vs k 0 ≡ v_of (held_of ps n k)

pub split-made : (ps : List ℕ) (n : ℕ) (ys us vs : List ℕ) (k : ℕ) → k ≡ 64 → ys ≡ laid (λ (j : ℕ). y_of (held_of ps n j)) (replicate 64 0) 0 k → us ≡ laid (λ (j : ℕ). u_of (held_of ps n j)) (replicate 64 0) 0 k → vs ≡ laid (λ (j : ℕ). v_of (held_of ps n j)) (replicate 64 0) 0 k → Split ps n ys us vs
split-made ps n ys us vs k q ey eu ev = record {
  y = λ j h. ap (λ (l : List ℕ). get_or l j 0) ey ∙ at (λ (i : ℕ). y_of (held_of ps n i)) j h;
  u = λ j h. ap (λ (l : List ℕ). get_or l j 0) eu ∙ at (λ (i : ℕ). u_of (held_of ps n i)) j h;
  v = λ j h. ap (λ (l : List ℕ). get_or l j 0) ev ∙ at (λ (i : ℕ). v_of (held_of ps n i)) j h;
}
  where
    at : (f : ℕ → ℕ) (j : ℕ) → j < 64 → get_or (laid f (replicate 64 0) 0 k) j 0 ≡ f j
    at f j h = laid_in f (replicate 64 0) 0 k j 0 (omega arith) (omega arith) (omega (arith, length-replicate {A = ℕ} 64 0))

-- ---- keys

abbrev pub key_of : ℕ → ℕ → ℕ
key_of d k = min d 1023 * 64 + k

-- entry m has the key `best`, where it is nearer than 1023
pub record KeyIs (e : ℕ) (ps : List ℕ) (m best : ℕ) : Type 0 where
  pub near : dist e (get_or ps m 0) < 1023 → best ≡ dist e (get_or ps m 0) * 64 + m
  pub far : 1023 ≤ dist e (get_or ps m 0) → 65472 ≤ best

-- it is that of the nearest of the first j entries
abbrev pub Keyed : ℕ → List ℕ → ℕ → ℕ → Type 0
Keyed e ps j best = KeyIs e ps (nearest_to e ps j) best

pub key_at : (e : ℕ) (ps : List ℕ) (n : ℕ) (ys us vs : List ℕ) (k x : ℕ) → Split ps n ys us vs → k < 64 → x ≡ key_of (max (gap (y_of e) (get_or ys k 0)) (max (gap (u_of e) (get_or us k 0)) (gap (v_of e) (get_or vs k 0)))) k → x ≡ key_of (dist e (held_of ps n k)) k
unfolding dist
key_at e ps n ys us vs k x s h q = q ∙ rw (s.y k h, s.u k h, s.v k h)

pub keyed_start : (e : ℕ) (ps : List ℕ) (n x : ℕ) → 1 ≤ n → x ≡ key_of (dist e (held_of ps n 0)) 0 → Keyed e ps (min 0 n) x
keyed_start e ps n x h q =
    let z : min 0 n ≡ 0 = omega arith in
    let w : x ≡ key_of (dist e (get_or ps 0 0)) 0 = q ∙ ap (λ (p : ℕ). key_of (dist e p) 0) (sym (held_in ps n 0 h)) in
    rw (z, nearest_none e ps) record { near = λ l. omega arith; far = λ l. omega arith }

keyed_next : (e : ℕ) (ps : List ℕ) (k key x : ℕ) → k < 64 → Keyed e ps k key → nearest_to e ps k ≤ k → x ≡ key_of (dist e (get_or ps k 0)) k → Keyed e ps (suc k) (min x key)
keyed_next e ps k key x h i l q =
    ⊎_elim
    (λ (d : dist e (get_or ps k 0) < dist e (get_or ps (nearest_to e ps k) 0)).
    rw (nearer_suc e ps k d)
    record {
      near = λ m. ⊎_elim
          (λ (o : dist e (get_or ps (nearest_to e ps k) 0) < 1023). omega (arith, i.near o))
          (λ (o : 1023 ≤ dist e (get_or ps (nearest_to e ps k) 0)). omega (arith, i.far o))
          (lt_or_le (dist e (get_or ps (nearest_to e ps k) 0)) 1023);
      far = λ m. let o : 1023 ≤ dist e (get_or ps (nearest_to e ps k) 0) = omega arith in omega (arith, i.far o);
    })
    (λ (d : dist e (get_or ps (nearest_to e ps k) 0) ≤ dist e (get_or ps k 0)).
    rw (same_suc e ps k d)
    record {
      near = λ m. omega (arith, i.near m);
      far = λ m. omega (arith, i.far m);
    })
    (lt_or_le (dist e (get_or ps k 0)) (dist e (get_or ps (nearest_to e ps k) 0)))

keyed_past : (e : ℕ) (ps : List ℕ) (n k best x : ℕ) → 1 ≤ n → n ≤ k → Keyed e ps n best → x ≡ key_of (dist e (get_or ps 0 0)) k → Keyed e ps n (min x best)
keyed_past e ps n k best' x h l i q =
    let m = (best e ps n).least 0 h in
    let o = nearest_lt e ps n h in
    record { near = λ d. omega (arith, i.near d); far = λ d. omega (arith, i.far d) }

nearest_upto : (e : ℕ) (ps : List ℕ) (k : ℕ) → nearest_to e ps k ≤ k
nearest_upto e ps zero = omega (arith, nearest_none e ps)
nearest_upto e ps (suc k) = let h : 1 ≤ suc k = omega arith in omega (arith, nearest_lt e ps (suc k) h)

-- one turn of the search
pub keyed_turn : (e : ℕ) (ps : List ℕ) (n k best x : ℕ) → 1 ≤ n → k < 64 → Keyed e ps (min k n) best → x ≡ key_of (dist e (held_of ps n k)) k → Keyed e ps (min (k + 1) n) (min x best)
keyed_turn e ps n k best x h m i q =
    ⊎_elim
    (λ (l : k < n).
    let a : min k n ≡ k = omega arith in
    let b : min (k + 1) n ≡ suc k = omega arith in
    rw b (keyed_next e ps k best x m (rw a at i) (nearest_upto e ps k) (q ∙ ap (λ (p : ℕ). key_of (dist e p) k) (sym (held_in ps n k l)))))
    (λ (l : n ≤ k).
    let a : min k n ≡ n = omega arith in
    let b : min (k + 1) n ≡ n = omega arith in
    rw b (keyed_past e ps n k best x h l (rw a at i) (q ∙ ap (λ (p : ℕ). key_of (dist e p) k) (sym (held-past ps n k l)))))
    (lt_or_le k n)

-- ---- the index from the least key

pub keyed_near : (tol e : ℕ) (ps : List ℕ) (n best : ℕ) → 1 ≤ n → n ≤ 64 → tol < 1023 → Keyed e ps n best → best / 64 ≤ tol → (best % 64 ≡ index_of tol ps n e) × (best % 64 ≤ n)
keyed_near tol e ps n best h l t i b =
    let o = nearest_lt e ps n h in
    ⊎_elim
    (λ (d : dist e (get_or ps (nearest_to e ps n) 0) < 1023).
    let q = i.near d in
    let w : dist e (get_or ps (nearest_to e ps n) 0) ≤ tol = omega arith in
    let z : best % 64 ≡ nearest_to e ps n = omega arith in
    (z ∙ sym (index-near tol ps n e w), omega arith))
    (λ (d : 1023 ≤ dist e (get_or ps (nearest_to e ps n) 0)). absurd (omega (arith, i.far d)))
    (lt_or_le (dist e (get_or ps (nearest_to e ps n) 0)) 1023)

pub keyed_far : (tol e : ℕ) (ps : List ℕ) (n best : ℕ) → 1 ≤ n → n ≤ 64 → tol < 1023 → Keyed e ps n best → tol < best / 64 → (n ≡ index_of tol ps n e) × (n ≤ n)
keyed_far tol e ps n best h l t i b =
    let o = nearest_lt e ps n h in
    ⊎_elim
    (λ (d : tol < dist e (get_or ps (nearest_to e ps n) 0)). (sym (index-far tol ps n e d), omega arith))
    (λ (d : dist e (get_or ps (nearest_to e ps n) 0) ≤ tol).
    let m : dist e (get_or ps (nearest_to e ps n) 0) < 1023 = omega arith in
    absurd (omega (arith, i.near m)))
    (lt_or_le tol (dist e (get_or ps (nearest_to e ps n) 0)))
