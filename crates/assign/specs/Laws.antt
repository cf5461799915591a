-- The entry taken is the nearest, lowest on ties; document 01's rule of the previous cell takes the same; what does not escape is within tolerance.
use Rattle.std.specs.Prelude.{Bool, true, false, List, ◌≡◌, refl, ℕ, zero, suc, ◌+◌, ◌≤◌, ◌<◌, eqb, get_or}
use Rattle.std.proofs.Common.{⊎_elim, ap, sym, ◌∙◌, add-one, arith, lt-ltb, le-ltb, le-leb, eqb-true}
use Rattle.std.proofs.lemmas.Bool.{lt-leb}
use Rattle.base.specs.Pick.{pick, either, lt_or_le}
use Rattle.base.specs.Sums.{how_many, how_many-next}
use Rattle.quant.specs.Quant.{dist}
use Rattle.quant.specs.QuantLaws.{dist_self, dist-none}
use Rattle.assign.specs.Assign.{nearest_to, index_of}

-- ---- one more entry

pub nearest_none : (e : ℕ) (ps : List ℕ) → nearest_to e ps 0 ≡ 0
unfolding nearest_to
nearest_none e ps = refl

pub nearer_suc : (e : ℕ) (ps : List ℕ) (k : ℕ) → dist e (get_or ps k 0) < dist e (get_or ps (nearest_to e ps k) 0) → nearest_to e ps (suc k) ≡ k
unfolding nearest_to
nearer_suc e ps k h = rw (lt-ltb _ _ h)

pub same_suc : (e : ℕ) (ps : List ℕ) (k : ℕ) → dist e (get_or ps (nearest_to e ps k) 0) ≤ dist e (get_or ps k 0) → nearest_to e ps (suc k) ≡ nearest_to e ps k
unfolding nearest_to
same_suc e ps k h = rw (le-ltb _ _ h)

-- ---- the nearest, lowest on ties

-- entry m is nearest to e of the first n, and the lowest such
pub record Best (e : ℕ) (ps : List ℕ) (n m : ℕ) : Type 0 where
  pub least : (j : ℕ) → j < n → dist e (get_or ps m 0) ≤ dist e (get_or ps j 0)
  pub lowest : (j : ℕ) → j < m → dist e (get_or ps m 0) < dist e (get_or ps j 0)

best-next : (e : ℕ) (ps : List ℕ) (k : ℕ) → Best e ps k (nearest_to e ps k) → Best e ps (suc k) (nearest_to e ps (suc k))
best-next e ps k b =
    ⊎_elim
    (λ (h : dist e (get_or ps k 0) < dist e (get_or ps (nearest_to e ps k) 0)).
    rw (nearer_suc e ps k h)
    record {
      least = λ j l. ⊎_elim (λ (x : j < k). omega (arith, b.least j x)) (λ (x : k ≤ j). let q : j ≡ k = omega arith in rw q (omega arith)) (lt_or_le j k);
      lowest = λ j l. omega (arith, b.least j l);
    })
    (λ (h : dist e (get_or ps (nearest_to e ps k) 0) ≤ dist e (get_or ps k 0)).
    rw (same_suc e ps k h)
    record {
      least = λ j l. ⊎_elim (λ (x : j < k). b.least j x) (λ (x : k ≤ j). let q : j ≡ k = omega arith in rw q h) (lt_or_le j k);
      lowest = b.lowest;
    })
    (lt_or_le (dist e (get_or ps k 0)) (dist e (get_or ps (nearest_to e ps k) 0)))

pub best : (e : ℕ) (ps : List ℕ) (n : ℕ) → Best e ps n (nearest_to e ps n)
best e ps zero = rw (nearest_none e ps) record { least = λ j l. absurd (omega arith); lowest = λ j l. absurd (omega arith) }
best e ps (suc k) = best-next e ps k (best e ps k)

nearest_le : (e : ℕ) (ps : List ℕ) (k : ℕ) → nearest_to e ps (suc k) ≤ k
nearest_le e ps zero =
    ⊎_elim (λ (h : dist e (get_or ps 0 0) < dist e (get_or ps (nearest_to e ps 0) 0)). omega (arith, nearer_suc e ps 0 h))
    (λ (h : dist e (get_or ps (nearest_to e ps 0) 0) ≤ dist e (get_or ps 0 0)). omega (arith, same_suc e ps 0 h, nearest_none e ps))
    (lt_or_le (dist e (get_or ps 0 0)) (dist e (get_or ps (nearest_to e ps 0) 0)))
nearest_le e ps (suc k) =
    ⊎_elim (λ (h : dist e (get_or ps (suc k) 0) < dist e (get_or ps (nearest_to e ps (suc k)) 0)). omega (arith, nearer_suc e ps (suc k) h))
    (λ (h : dist e (get_or ps (nearest_to e ps (suc k)) 0) ≤ dist e (get_or ps (suc k) 0)). omega (arith, same_suc e ps (suc k) h, nearest_le e ps k))
    (lt_or_le (dist e (get_or ps (suc k) 0)) (dist e (get_or ps (nearest_to e ps (suc k)) 0)))

pub nearest_lt : (e : ℕ) (ps : List ℕ) (n : ℕ) → 1 ≤ n → nearest_to e ps n < n
nearest_lt e ps zero h = absurd (omega arith)
nearest_lt e ps (suc k) h = omega (arith, nearest_le e ps k)

-- one entry alone is best
pub best_only : (e : ℕ) (ps : List ℕ) (n a b : ℕ) → Best e ps n a → Best e ps n b → a < n → b < n → a ≡ b
best_only e ps n a b p q h k =
    ⊎_elim
    (λ (l : a < b). absurd (omega (arith, q.lowest a l, p.least b k)))
    (λ (l : b ≤ a). ⊎_elim (λ (m : b < a). absurd (omega (arith, p.lowest b m, q.least a h))) (λ (m : a ≤ b). omega arith) (lt_or_le b a))
    (lt_or_le a b)

-- ---- the rule of the previous cell

-- two entries that e equals are one to every colour
zero_same : (e a b x : ℕ) → dist e a ≡ 0 → dist e b ≡ 0 → dist x a ≡ dist x b
unfolding dist
zero_same e a b x p q =
    let h = dist-none e a p in
    let k = dist-none e b q in
    rw (sym h.0 ∙ k.0, sym h.1 ∙ k.1, sym h.2 ∙ k.2)

-- where the entry found for another colour equals this one, it is the entry found for this one too
pub previous_entry : (e e' : ℕ) (ps : List ℕ) (n : ℕ) → 1 ≤ n → dist e (get_or ps (nearest_to e' ps n) 0) ≡ 0 → nearest_to e ps n ≡ nearest_to e' ps n
previous_entry e e' ps n h z =
    let b = best e ps n in
    let b' = best e' ps n in
    let l = nearest_lt e ps n h in
    let l' = nearest_lt e' ps n h in
    let w : dist e (get_or ps (nearest_to e ps n) 0) ≡ 0 = omega (arith, b.least (nearest_to e' ps n) l') in
    best_only e ps n (nearest_to e ps n) (nearest_to e' ps n) b
    record {
      least = λ j m. omega arith;
      lowest = λ j m. ⊎_elim
          (λ (o : 0 < dist e (get_or ps j 0)). omega arith)
          (λ (o : dist e (get_or ps j 0) ≤ 0).
          let y : dist e (get_or ps j 0) ≡ 0 = omega arith in
          absurd (omega (arith, b'.lowest j m, zero_same e (get_or ps j 0) (get_or ps (nearest_to e' ps n) 0) e' y z)))
          (lt_or_le 0 (dist e (get_or ps j 0)));
    } l l'

-- entry 0 is the one found for its own colour
pub first_nearest : (ps : List ℕ) (n : ℕ) → nearest_to (get_or ps 0 0) ps n ≡ 0
first_nearest ps n =
    let b = best (get_or ps 0 0) ps n in
    ⊎_elim (λ (l : 0 < nearest_to (get_or ps 0 0) ps n). absurd (omega (arith, b.lowest 0 l, dist_self (get_or ps 0 0)))) (λ (l : nearest_to (get_or ps 0 0) ps n ≤ 0). omega arith)
    (lt_or_le 0 (nearest_to (get_or ps 0 0) ps n))

-- document 01's wording: the entry found for the previous cell, 0 at the start, is taken if it equals the sample, else the nearest
abbrev pub found_after : ℕ → ℕ → List ℕ → ℕ → ℕ
found_after p e ps n = pick (eqb (dist e (get_or ps p 0)) 0) p (nearest_to e ps n)

unfoldable pub found_at : (ℕ → ℕ) → List ℕ → ℕ → ℕ → ℕ
found_at f ps n zero = found_after 0 (f 0) ps n
found_at f ps n (suc j) = found_after (found_at f ps n j) (f (suc j)) ps n

after_nearest : (e e' : ℕ) (ps : List ℕ) (n : ℕ) → 1 ≤ n → found_after (nearest_to e' ps n) e ps n ≡ nearest_to e ps n
after_nearest e e' ps n h =
    either (eqb (dist e (get_or ps (nearest_to e' ps n) 0)) 0) (λ t. rw t (sym (previous_entry e e' ps n h (eqb-true _ 0 t)))) (λ t. rw t)

-- it is the nearest entry at every cell
pub found_nearest : (f : ℕ → ℕ) (ps : List ℕ) (n : ℕ) → 1 ≤ n → (j : ℕ) → found_at f ps n j ≡ nearest_to (f j) ps n
unfolding found_at
found_nearest f ps n h zero = ap (λ (p : ℕ). found_after p (f 0) ps n) (sym (first_nearest ps n)) ∙ after_nearest (f 0) (get_or ps 0 0) ps n h
found_nearest f ps n h (suc j) = ap (λ (p : ℕ). found_after p (f (suc j)) ps n) (found_nearest f ps n h j) ∙ after_nearest (f (suc j)) (f j) ps n h

-- ---- the index of a colour

pub index-near : (tol : ℕ) (ps : List ℕ) (n e : ℕ) → dist e (get_or ps (nearest_to e ps n) 0) ≤ tol → index_of tol ps n e ≡ nearest_to e ps n
unfolding index_of
index-near tol ps n e h = rw (le-leb _ _ h)

pub index-far : (tol : ℕ) (ps : List ℕ) (n e : ℕ) → tol < dist e (get_or ps (nearest_to e ps n) 0) → index_of tol ps n e ≡ n
unfolding index_of
index-far tol ps n e h = rw (lt-leb _ _ h)

pub index_le : (tol : ℕ) (ps : List ℕ) (n e : ℕ) → 1 ≤ n → index_of tol ps n e ≤ n
index_le tol ps n e h =
    ⊎_elim (λ (f : tol < dist e (get_or ps (nearest_to e ps n) 0)). omega (arith, index-far tol ps n e f))
    (λ (f : dist e (get_or ps (nearest_to e ps n) 0) ≤ tol). omega (arith, index-near tol ps n e f, nearest_lt e ps n h))
    (lt_or_le tol (dist e (get_or ps (nearest_to e ps n) 0)))

-- a cell that does not escape is within tolerance of its entry
pub index-within : (tol : ℕ) (ps : List ℕ) (n e : ℕ) → index_of tol ps n e < n → dist e (get_or ps (index_of tol ps n e) 0) ≤ tol
index-within tol ps n e h =
    ⊎_elim (λ (f : tol < dist e (get_or ps (nearest_to e ps n) 0)). absurd (omega (arith, index-far tol ps n e f)))
    (λ (f : dist e (get_or ps (nearest_to e ps n) 0) ≤ tol). rw (index-near tol ps n e f) f)
    (lt_or_le tol (dist e (get_or ps (nearest_to e ps n) 0)))

-- and a cell that escapes is beyond tolerance of every entry
pub escape_beyond : (tol : ℕ) (ps : List ℕ) (n e : ℕ) → 1 ≤ n → index_of tol ps n e ≡ n → (j : ℕ) → j < n → tol < dist e (get_or ps j 0)
escape_beyond tol ps n e h q j l =
    ⊎_elim (λ (f : tol < dist e (get_or ps (nearest_to e ps n) 0)). omega (arith, (best e ps n).least j l))
    (λ (f : dist e (get_or ps (nearest_to e ps n) 0) ≤ tol). absurd (omega (arith, index-near tol ps n e f, nearest_lt e ps n h)))
    (lt_or_le tol (dist e (get_or ps (nearest_to e ps n) 0)))

pub index-first : (tol : ℕ) (ps : List ℕ) (n : ℕ) → index_of tol ps n (get_or ps 0 0) ≡ 0
index-first tol ps n =
    let z = first_nearest ps n in
    let k : dist (get_or ps 0 0) (get_or ps (nearest_to (get_or ps 0 0) ps n) 0) ≤ tol = rw z (omega (arith, dist_self (get_or ps 0 0))) in
    index-near tol ps n (get_or ps 0 0) k ∙ z

-- ---- one turn of the search

-- `best` is the entry found so far, err its distance
pub record Found (e : ℕ) (ps : List ℕ) (k best err : ℕ) : Type 0 where
  pub is : best ≡ nearest_to e ps k
  pub far : err ≡ dist e (get_or ps best 0)

pub found_none : (e : ℕ) (ps : List ℕ) (err : ℕ) → err ≡ dist e (get_or ps 0 0) → Found e ps 0 0 err
found_none e ps err h = record { is = sym (nearest_none e ps); far = h }

pub found-nearer : (e : ℕ) (ps : List ℕ) (k best err d best' err' : ℕ) → Found e ps k best err → d ≡ dist e (get_or ps k 0) → d < err → best' ≡ k → err' ≡ d → Found e ps (k + 1) best' err'
found-nearer e ps k best err d best' err' f x h p q =
    let l : dist e (get_or ps k 0) < dist e (get_or ps (nearest_to e ps k) 0) = rw (x, f.far, f.is) at h in
    record { is = p ∙ sym (rw add-one (nearer_suc e ps k l)); far = q ∙ x ∙ rw p }

pub found-same : (e : ℕ) (ps : List ℕ) (k best err d best' err' : ℕ) → Found e ps k best err → d ≡ dist e (get_or ps k 0) → err ≤ d → best' ≡ best → err' ≡ err → Found e ps (k + 1) best' err'
found-same e ps k best err d best' err' f x h p q =
    let l : dist e (get_or ps (nearest_to e ps k) 0) ≤ dist e (get_or ps k 0) = rw (x, f.far, f.is) at h in
    record { is = p ∙ f.is ∙ sym (rw add-one (same_suc e ps k l)); far = q ∙ f.far ∙ rw p }

pub found-near : (tol e : ℕ) (ps : List ℕ) (n best err : ℕ) → 1 ≤ n → Found e ps n best err → err ≤ tol → (best ≡ index_of tol ps n e) × (best ≤ n)
found-near tol e ps n best err o f h =
    let l : dist e (get_or ps (nearest_to e ps n) 0) ≤ tol = rw (f.far, f.is) at h in
    (f.is ∙ sym (index-near tol ps n e l), omega (arith, f.is, nearest_lt e ps n o))

pub found-far : (tol e : ℕ) (ps : List ℕ) (n best err : ℕ) → Found e ps n best err → tol < err → n ≡ index_of tol ps n e
found-far tol e ps n best err f h =
    let l : tol < dist e (get_or ps (nearest_to e ps n) 0) = rw (f.far, f.is) at h in
    sym (index-far tol ps n e l)

-- ---- one cell more, which escapes or does not

pub counted_yes : (f : ℕ → Bool) (i n m : ℕ) → n ≡ how_many i f → f i ≡ true → m ≡ n + 1 → m ≡ how_many (i + 1) f
counted_yes f i n m e t h = h ∙ rw e (sym (how_many-next f i ∙ rw t))

pub counted_no : (f : ℕ → Bool) (i n m : ℕ) → n ≡ how_many i f → f i ≡ false → m ≡ n → m ≡ how_many (i + 1) f
counted_no f i n m e t h = h ∙ e ∙ sym (how_many-next f i ∙ rw t)
