-- The laws of counting: colours met are distinct, a count says how often its colour stands among the samples, and the counts sum to n.
use Rattle.std.specs.Prelude.{ltb, List, [], ◌∷◌, ◌++◌, ◌≡◌, refl, ℕ, zero, suc, ◌+◌, ◌≤◌, ◌<◌, length, get_or, set}
use Rattle.std.proofs.Common.{⊎_elim, sym, ◌∙◌, ap, subst, arith, add-zero, add-suc, add-one, eq-eqb, ne_eqb, lt-ltb, le-ltb, length-set, length-append, get_or-set_same, get_or-set_other}
use Rattle.std.proofs.Math.ListN.{get_or-append}
use Rattle.std.proofs.Math.Seq.{get_or-append_seam}
use Rattle.base.specs.Alls.{all_append}
use Rattle.base.specs.Codes.{All}
use Rattle.base.specs.Pick.{pick, lt_or_le, eq_or_ne}
use Rattle.colors.specs.Place.{place_of, place_le, place_at, place_other, Distinct, distinct_more, seen, seen_old, seen_new, seen-length, seen_has, seen-keeps}
use Rattle.census.specs.Census.{met_by, itself, met, tally, counts, table_to, total, occurs}
use Rattle.colors.specs.Table.{Table, after_of}

pub met_next : (f : ℕ → ℕ) (xs : List ℕ) (i : ℕ) → met_by f xs (i + 1) ≡ seen (met_by f xs i) (f (get_or xs i 0))
unfolding met_by
met_next f xs i = rw add-one

pub counts-next : (xs : List ℕ) (i : ℕ) → counts xs (i + 1) ≡ tally (met xs i) (counts xs i) (get_or xs i 0)
unfolding counts
counts-next xs i = rw add-one

pub tally_old : (ms cs : List ℕ) (k : ℕ) → place_of k ms < length ms → tally ms cs k ≡ set cs (place_of k ms) (get_or cs (place_of k ms) 0 + 1)
unfolding tally
tally_old ms cs k h = rw (lt-ltb _ _ h)

pub tally_new : (ms cs : List ℕ) (k : ℕ) → length ms ≤ place_of k ms → tally ms cs k ≡ cs ++ (1 ∷ [])
unfolding tally
tally_new ms cs k h = rw (le-ltb _ _ h)

-- each colour is met once
pub met_distinct : (f : ℕ → ℕ) (xs : List ℕ) (n : ℕ) → Distinct (met_by f xs n)
unfolding met_by
met_distinct f xs zero = λ e h. absurd (omega arith)
met_distinct f xs (suc i) =
    let k = f (get_or xs i 0) in
    let ms = met_by f xs i in
    ⊎_elim (λ (h : place_of k ms < length ms). rw (seen_old ms k h) (met_distinct f xs i))
    (λ (h : length ms ≤ place_of k ms). rw (seen_new ms k h) (distinct_more ms k (omega (arith, place_le k ms)) (met_distinct f xs i))) (lt_or_le (place_of k ms) (length ms))

-- distinct colours are at most the samples
pub met_le : (f : ℕ → ℕ) (xs : List ℕ) (n : ℕ) → length (met_by f xs n) ≤ n
unfolding met_by
met_le f xs zero = omega arith
met_le f xs (suc i) = omega (arith, (seen-length (met_by f xs i) (f (get_or xs i 0))).1, met_le f xs i)

pub met_mono : (f : ℕ → ℕ) (xs : List ℕ) (i d : ℕ) → length (met_by f xs i) ≤ length (met_by f xs (i + d))
unfolding met_by
met_mono f xs i zero = rw add-zero (omega arith)
met_mono f xs i (suc d) = rw add-suc (omega (arith, met_mono f xs i d, (seen-length (met_by f xs (i + d)) (f (get_or xs (i + d) 0))).0))

total_snoc : (cs : List ℕ) (c : ℕ) → total (cs ++ (c ∷ [])) ≡ total cs + c
unfolding total
total_snoc [] c = omega arith
total_snoc (x ∷ cs) c = omega (arith, total_snoc cs c)

total-set : (cs : List ℕ) (p : ℕ) → p < length cs → total (set cs p (get_or cs p 0 + 1)) ≡ total cs + 1
unfolding total
total-set [] p h = absurd (omega arith)
total-set (x ∷ cs) zero h = omega arith
total-set (x ∷ cs) (suc p) h = omega (arith, total-set cs p (omega arith))

pub one_le_total : (cs : List ℕ) (p : ℕ) → get_or cs p 0 ≤ total cs
unfolding total
one_le_total [] p = omega arith
one_le_total (x ∷ cs) zero = omega arith
one_le_total (x ∷ cs) (suc p) = omega (arith, one_le_total cs p)

pub counts-length : (xs : List ℕ) (n : ℕ) → length (counts xs n) ≡ length (met xs n)
unfolding met_by counts
counts-length xs zero = refl
counts-length xs (suc i) =
    let e = counts-length xs i in
    let k = get_or xs i 0 in
    ⊎_elim (λ (h : place_of k (met xs i) < length (met xs i)). rw (seen_old (met xs i) k h, tally_old (met xs i) (counts xs i) k h, length-set) e)
    (λ (h : length (met xs i) ≤ place_of k (met xs i)). rw (seen_new (met xs i) k h, tally_new (met xs i) (counts xs i) k h, length-append, length-append) (omega arith)) (lt_or_le (place_of k (met xs i)) (length (met xs i)))

-- the counts sum to the samples counted
pub counts-total : (xs : List ℕ) (n : ℕ) → total (counts xs n) ≡ n
unfolding counts total
counts-total xs zero = refl
counts-total xs (suc i) =
    let e = counts-total xs i in
    let k = get_or xs i 0 in
    ⊎_elim (λ (h : place_of k (met xs i) < length (met xs i)). rw (tally_old (met xs i) (counts xs i) k h) (omega (arith, total-set (counts xs i) (place_of k (met xs i)) (omega (arith, counts-length xs i)))))
    (λ (h : length (met xs i) ≤ place_of k (met xs i)). rw (tally_new (met xs i) (counts xs i) k h) (omega (arith, total_snoc (counts xs i) 1))) (lt_or_le (place_of k (met xs i)) (length (met xs i)))

-- a colour that is not met does not stand there
absent : (k : ℕ) (xs : List ℕ) (n : ℕ) → length (met xs n) ≤ place_of k (met xs n) → occurs k xs n ≡ 0
unfolding met_by occurs
absent k xs zero h = refl
absent k xs (suc i) h =
    let x = get_or xs i 0 in
    let ne : x ≡ k → ⊥ = λ (e : x ≡ k). let q : place_of k (seen (met xs i) x) < length (seen (met xs i) x) = subst (λ (z : ℕ). place_of z (seen (met xs i) x) < length (seen (met xs i) x)) e (seen_has (met xs i) x) in omega arith in
    rw (ne_eqb x k ne) (⊎_elim (λ (l : place_of k (met xs i) < length (met xs i)). absurd (omega (arith, seen-keeps (met xs i) x k l))) (λ (l : length (met xs i) ≤ place_of k (met xs i)). absent k xs i l) (lt_or_le (place_of k (met xs i)) (length (met xs i))))

-- a count after one more sample, where each says how often its colour stands among those before
count_next : (xs : List ℕ) (i j y : ℕ) → ((k : ℕ) → k < length (met xs i) → get_or (counts xs i) k 0 ≡ occurs (get_or (met xs i) k 0) xs i) → j < length (seen (met xs i) (get_or xs i 0)) → y ≡ get_or (seen (met xs i) (get_or xs i 0)) j 0 → get_or (tally (met xs i) (counts xs i) (get_or xs i 0)) j 0 ≡ occurs y xs (suc i)
unfolding met_by occurs
count_next xs i j y ih h here =
    let x = get_or xs i 0 in
    let ms = met xs i in
    let cs = counts xs i in
    let n = counts-length xs i in
    ⊎_elim
    (λ (l : place_of x ms < length ms).
    let hj : j < length ms = rw (seen_old ms x l) at h in
    let old : y ≡ get_or ms j 0 = rw (seen_old ms x l) at here in
    rw (tally_old ms cs x l)
    (⊎_elim
    (λ (e : j ≡ place_of x ms).
    let is : y ≡ x = old ∙ (ap (λ (z : ℕ). get_or ms z 0) e ∙ place_at x ms l) in
    rw (is, eq-eqb x x refl, e, get_or-set_same cs (place_of x ms) (get_or cs (place_of x ms) 0 + 1) 0 (omega arith)) (add-one (get_or cs (place_of x ms) 0) ∙ ap suc (ih (place_of x ms) l ∙ ap (λ (z : ℕ). occurs z xs i) (place_at x ms l ∙ sym is))))
    (λ (e : j ≡ place_of x ms → ⊥).
    let ne : x ≡ get_or ms j 0 → ⊥ = λ (z : x ≡ get_or ms j 0). e (sym (met_distinct itself xs i j hj) ∙ ap (λ (w : ℕ). place_of w ms) (sym z)) in
    rw (old, get_or-set_other cs (place_of x ms) j (get_or cs (place_of x ms) 0 + 1) 0 e, ne_eqb x (get_or ms j 0) ne) (ih j hj ∙ ap (λ (z : ℕ). occurs z xs i) (sym old)))
    (eq_or_ne j (place_of x ms))))
    (λ (l : length ms ≤ place_of x ms).
    let hj : j < length ms + 1 = rw (seen_new ms x l, length-append) at h in
    let new : y ≡ get_or (ms ++ (x ∷ [])) j 0 = rw (seen_new ms x l) at here in
    rw (tally_new ms cs x l)
    (⊎_elim
    (λ (e : j < length ms).
    let ne : x ≡ get_or ms j 0 → ⊥ = λ (z : x ≡ get_or ms j 0). let q : place_of x ms ≡ j = ap (λ (w : ℕ). place_of w ms) z ∙ met_distinct itself xs i j e in omega arith in
    let is : y ≡ get_or ms j 0 = new ∙ get_or-append ms (x ∷ []) 0 j e in
    rw (is, get_or-append cs (1 ∷ []) 0 j (omega arith), ne_eqb x (get_or ms j 0) ne) (ih j e ∙ ap (λ (z : ℕ). occurs z xs i) (sym is)))
    (λ (e : length ms ≤ j).
    let q : j ≡ length ms = omega arith in
    let p : length ms ≡ length cs = sym n in
    let is : y ≡ x = new ∙ (ap (λ (w : ℕ). get_or (ms ++ (x ∷ [])) w 0) q ∙ get_or-append_seam ms x [] 0) in
    rw (is, eq-eqb x x refl, q, p) (get_or-append_seam cs 1 [] 0 ∙ ap suc (sym (ap (λ (z : ℕ). occurs z xs i) is ∙ absent x xs i l))))
    (lt_or_le j (length ms))))
    (lt_or_le (place_of x ms) (length ms))

-- a count says how often its colour stands among the samples
pub counts_true : (xs : List ℕ) (n j : ℕ) → j < length (met xs n) → get_or (counts xs n) j 0 ≡ occurs (get_or (met xs n) j 0) xs n
unfolding met_by counts occurs
counts_true xs zero j h = absurd (omega arith)
counts_true xs (suc i) j h = count_next xs i j _ (λ k l. counts_true xs i k l) h refl

-- seen through f there are no more: each colour met is met through f
through : (f : ℕ → ℕ) (xs : List ℕ) (n k : ℕ) → place_of k (met xs n) < length (met xs n) → place_of (f k) (met_by f xs n) < length (met_by f xs n)
unfolding met_by place_of
through f xs zero k h = absurd (omega arith)
through f xs (suc i) k h =
    let x = get_or xs i 0 in
    ⊎_elim (λ (e : x ≡ k). rw (← e) (seen_has (met_by f xs i) (f x)))
    (λ (n : x ≡ k → ⊥).
    seen-keeps (met_by f xs i) (f x) (f k) (through f xs i k
    (⊎_elim (λ (o : place_of x (met xs i) < length (met xs i)). rw (seen_old (met xs i) x o) at h)
    (λ (o : length (met xs i) ≤ place_of x (met xs i)). place_other k x (met xs i) n (rw (seen_new (met xs i) x o, length-append) at h)) (lt_or_le (place_of x (met xs i)) (length (met xs i))))))
    (eq_or_ne x k)

pub through_le : (f : ℕ → ℕ) (xs : List ℕ) (n : ℕ) → length (met_by f xs n) ≤ length (met xs n)
unfolding met_by
through_le f xs zero = omega arith
through_le f xs (suc i) =
    let x = get_or xs i 0 in
    ⊎_elim (λ (h : place_of x (met xs i) < length (met xs i)). rw (seen_old (met xs i) x h, seen_old (met_by f xs i) (f x) (through f xs i x h)) (through_le f xs i))
    (λ (h : length (met xs i) ≤ place_of x (met xs i)). rw (seen_new (met xs i) x h, length-append) (omega (arith, through_le f xs i, (seen-length (met_by f xs i) (f x)).1)))
    (lt_or_le (place_of x (met xs i)) (length (met xs i)))

-- where there are samples a colour is met
pub met_some : (f : ℕ → ℕ) (xs : List ℕ) (n : ℕ) → 1 ≤ n → 1 ≤ length (met_by f xs n)
unfolding met_by
met_some f xs zero h = absurd (omega arith)
met_some f xs (suc i) h = omega (arith, seen_has (met_by f xs i) (f (get_or xs i 0)))

-- what holds of every sample holds of every colour met
pub met_all : (Good : ℕ → Type 0) (f : ℕ → ℕ) (xs : List ℕ) (n : ℕ) → ((i : ℕ) → i < n → Good (f (get_or xs i 0))) → All Good (met_by f xs n)
unfolding met_by
met_all Good f xs zero h = tt
met_all Good f xs (suc i) h =
    let k = f (get_or xs i 0) in
    let ms = met_by f xs i in
    let a = met_all Good f xs i (λ j l. h j (omega arith)) in
    ⊎_elim (λ (l : place_of k ms < length ms). rw (seen_old ms k l) a) (λ (l : length ms ≤ place_of k ms). rw (seen_new ms k l) (all_append Good ms (k ∷ []) a (h i (omega arith), tt)))
    (lt_or_le (place_of k ms) (length ms))

-- only the first n samples count
pub met_ext : (f : ℕ → ℕ) (xs ys : List ℕ) (n : ℕ) → ((i : ℕ) → i < n → get_or xs i 0 ≡ get_or ys i 0) → met_by f xs n ≡ met_by f ys n
unfolding met_by
met_ext f xs ys zero h = refl
met_ext f xs ys (suc i) h = (λ j. seen (met_ext f xs ys i (λ k l. h k (omega arith)) j) (f (h i (omega arith) j)))

pub counts_ext : (xs ys : List ℕ) (n : ℕ) → ((i : ℕ) → i < n → get_or xs i 0 ≡ get_or ys i 0) → counts xs n ≡ counts ys n
unfolding counts
counts_ext xs ys zero h = refl
counts_ext xs ys (suc i) h = (λ j. tally (met_ext itself xs ys i (λ k l. h k (omega arith)) j) (counts_ext xs ys i (λ k l. h k (omega arith)) j) (h i (omega arith) j))

pub table_ext : (t : Table) (g : ℕ) (xs ys : List ℕ) (n : ℕ) → ((i : ℕ) → i < n → get_or xs i 0 ≡ get_or ys i 0) → table_to t g xs n ≡ table_to t g ys n
unfolding table_to
table_ext t g xs ys zero h = refl
table_ext t g xs ys (suc i) h =
    let m = met_ext itself xs ys i (λ k l. h k (omega arith)) in
    let s = table_ext t g xs ys i (λ k l. h k (omega arith)) in
    (λ j. pick (ltb 128 (length (m j))) (s j) (after_of (s j) g (h i (omega arith) j) (length (m j))))
