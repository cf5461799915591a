-- The count on its way: one turn of the loop over the samples, and its two ends.
use Rattle.std.specs.Prelude.{Bool, ◌==◌, drop, List, [], ◌∷◌, ◌++◌, ◌≡◌, ℕ, zero, suc, ◌+◌, ◌-◌, ◌≤◌, ◌<◌, get_or, set, take}
use Rattle.std.proofs.Common.{eqb-true, eq-eqb, length-drop, get_or-drop, take_all, ⊎_elim, sym, ◌∙◌, ap, subst, add-zero, add-suc, add-one, lt-ltb, le-ltb, length-append, get_or-take, length-take-le, get_or-set_same, set-set}
use Rattle.std.proofs.Math.Path.{refl}
use native.Mathlib.Omega.{arith}
use Rattle.std.proofs.Math.ListN.{length}
use Rattle.std.proofs.lemmas.List.{set-get_or}
use Rattle.std.proofs.lemmas.List.Sums.{prefix_len-le-length, prefix_len_passes, prefix_len_stops}
use Rattle.std.specs.List.{prefix_len}
use Rattle.base.specs.Pick.{lt_or_le, true_false}
use Rattle.base.specs.Lists.{padded, padded-length, padded-take, padded-read, padded-set, padded-push}
use Rattle.colors.specs.Place.{place_of, place_le, place_at, Distinct, seen_old, seen_new}
use Rattle.colors.specs.Table.{Table, answer_of, after_of, Holds}
use Rattle.colors.specs.Laws.{answers, keeps, hit-keeps}
use Rattle.census.specs.declared.Census.{Census}
use Rattle.census.specs.Census.{met_by, itself, met, counts, census, census_of, table_to}
use Rattle.census.specs.Laws.{met_next, counts-next, tally_old, tally_new, met_distinct, met_mono, one_le_total, counts-length, counts-total}

-- one sample noted: its place p among d colours
pub record Noted (ms₀ ms cs₀ cs : List ℕ) (p d key r : ℕ) : Type 0 where
  pub old : p < d → (r ≡ d) × (ms ≡ ms₀) × (cs ≡ set cs₀ p (get_or cs₀ p 0 + 1))
  pub new : d ≤ p → (r ≡ d + 1) × (ms ≡ set ms₀ d key) × (cs ≡ set cs₀ d 1)

-- a run of a colour from a place on ends at r, at the latest at n
pub record Run (xs : List ℕ) (n from key r : ℕ) : Type 0 where
  pub low : from ≤ r
  pub high : r ≤ n
  pub same : (j : ℕ) → from ≤ j → j < r → get_or xs j 0 ≡ key
  pub end : r < n → get_or xs r 0 ≡ key → ⊥

-- a place that is checked is the look-up's answer, and leaves the table as it is
pub checked : (t : Table) (g : ℕ) (ms : List ℕ) (d e key : ℕ) → Holds t g (take d ms) → Distinct (take d ms) → d ≤ length ms → d ≤ 128 → e < d → get_or ms e 0 ≡ key
    → (e ≡ answer_of t g key d) × (t ≡ after_of t g key d)
checked t g ms d e key w u l f h q =
    let n : length (take d ms) ≡ d = length-take-le d ms l in
    let p : place_of key (take d ms) ≡ e = rw (get_or-take d ms e 0 h, q) at (u e (omega arith)) in
    let a = answers t g (take d ms) key w (omega arith) in
    let b = hit-keeps t g (take d ms) key w (omega arith) (omega arith) in
    (sym (rw n at a ∙ p), sym (rw n at b))

-- the table, one sample on
table-next : (t : Table) (g : ℕ) (xs : List ℕ) (i : ℕ) → length (met xs i) ≤ 128 → table_to t g xs (i + 1) ≡ after_of (table_to t g xs i) g (get_or xs i 0) (length (met xs i))
unfolding table_to
table-next t g xs i h = rw (add-one i, le-ltb 128 (length (met xs i)) h)

table_stays : (t : Table) (g : ℕ) (xs : List ℕ) (i d : ℕ) → 128 < length (met xs i) → table_to t g xs (i + d) ≡ table_to t g xs i
unfolding table_to
table_stays t g xs i zero h = rw add-zero
table_stays t g xs i (suc d) h = rw (add-suc, lt-ltb 128 (length (met xs (i + d))) (omega (arith, met_mono itself xs i d))) (table_stays t g xs i d h)

-- i samples counted: d colours in the arrays ms and cs, the table t from t₀
pub record Going (t₀ t : Table) (g : ℕ) (xs : List ℕ) (i d : ℕ) (ms cs : List ℕ) : Type 0 where
  pub holds : Holds t g (met xs i)
  pub table : t ≡ table_to t₀ g xs i
  pub count : d ≡ length (met xs i)
  pub few : d ≤ 128
  pub colours : ms ≡ padded 128 0 (met xs i)
  pub often : cs ≡ padded 128 0 (counts xs i)

pub going_start : (t : Table) (g : ℕ) (xs ms cs : List ℕ) → Holds t g [] → ms ≡ padded 128 0 [] → cs ≡ padded 128 0 [] → Going t t g xs 0 0 ms cs
unfolding met_by counts table_to
going_start t g xs ms cs h a b = record { holds = h; table = refl; count = refl; few = omega arith; colours = a; often = b }

module _ {t₀ t : Table} {g : ℕ} {xs : List ℕ} {i d : ℕ} {ms cs : List ℕ} (v : Going t₀ t g xs i d ms cs) where
  going_take : take d ms ≡ met xs i
  going_take = rw v.colours (padded-take 128 0 (met xs i) d (sym v.count))

  -- the colours met, as the table holds them
  going_place : ((d ≤ 128) × (length ms ≡ 128) × Distinct (take d ms)) × Holds t g (take d ms)
  going_place = (
    (v.few, rw v.colours (padded-length 128 0 (met xs i) (omega (arith, v.few, v.count))), rw going_take (met_distinct itself xs i)),
    rw going_take v.holds,
  )

  module _ {t' : Table} {key p : ℕ} (k : key ≡ get_or xs i 0) (a : p ≡ answer_of t g key d) (b : t' ≡ after_of t g key d) where
    going_at : p ≡ place_of key (met xs i)
    going_at = a ∙ ap (answer_of t g key) v.count ∙ answers t g (met xs i) key v.holds (omega (arith, v.few, v.count))

    pub going_le : p ≤ d
    going_le = omega (arith, place_le key (met xs i), v.count, going_at)

    going_holds : Holds t' g (met xs (i + 1))
    going_holds = rw (b, met_next itself xs i, v.count, ← k) (keeps t g (met xs i) key v.holds (omega (arith, v.few, v.count)))

    going_table : t' ≡ table_to t₀ g xs (i + 1)
    going_table = b ∙ (λ j. after_of (v.table j) g (k j) (v.count j)) ∙ sym (table-next t₀ g xs i (omega (arith, v.few, v.count)))

    going_same : place_of key (met xs i) < length (met xs i) → met xs (i + 1) ≡ met xs i
    going_same h = met_next itself xs i ∙ rw (← k) (seen_old (met xs i) key h)

    going_more : length (met xs i) ≤ place_of key (met xs i) → met xs (i + 1) ≡ met xs i ++ (key ∷ [])
    going_more h = met_next itself xs i ∙ rw (← k) (seen_new (met xs i) key h)

    -- what `note` asks
    pub going_note : i ≤ 1024 → (p ≡ 128 → ⊥) → (p < 128) × (d ≤ p → d < 128) × (p < d → get_or cs p 0 ≤ 1024)
    going_note l n = (
      omega (arith, n, going_le, v.few),
      λ h. omega (arith, n, going_le, v.few),
      λ h. rw (v.often, padded-read 128 0 0 (counts xs i) p (omega (arith, v.count, counts-length xs i))) (omega (arith, one_le_total (counts xs i) p, counts-total xs i)),
    )

    -- one more sample
    pub going_turn : {ms' cs' : List ℕ} {r : ℕ} → (p ≡ 128 → ⊥) → Noted ms ms' cs cs' p d key r → Going t₀ t' g xs (i + 1) r ms' cs'
    going_turn {ms'} {cs'} {r} n o =
        let e = going_at in
        let le = going_le in
        let w = counts-length xs i in
        ⊎_elim
        (λ (q : p < d).
        let m = o.old q in
        let h : place_of key (met xs i) < length (met xs i) = omega (arith, v.count) in
        rw (m.0, m.1, m.2) (record {
          holds = going_holds;
          table = going_table;
          count = v.count ∙ ap length (sym (going_same h));
          few = v.few;
          colours = v.colours ∙ ap (padded 128 0) (sym (going_same h));
          often = rw (v.often, e, padded-read 128 0 0 (counts xs i) (place_of key (met xs i)) (omega arith), padded-set 128 0 (get_or (counts xs i) (place_of key (met xs i)) 0 + 1) (counts xs i) (place_of key (met xs i)) (omega arith), counts-next xs i, ← k)
              (ap (padded 128 0) (sym (tally_old (met xs i) (counts xs i) key h)));
        }))
        (λ (q : d ≤ p).
        let m = o.new q in
        let h : length (met xs i) ≤ place_of key (met xs i) = omega (arith, v.count) in
        let f : length (met xs i) < 128 = omega (arith, n, v.few, v.count) in
        rw (m.0, m.1, m.2) (record {
          holds = going_holds;
          table = going_table;
          count = rw (going_more h, length-append) (omega (arith, v.count));
          few = omega (arith, v.count);
          colours = rw (v.count, v.colours, padded-push 128 0 key (met xs i) f) (ap (padded 128 0) (sym (going_more h)));
          often = rw (v.count, ← w, v.often, padded-push 128 0 1 (counts xs i) (omega arith), counts-next xs i, ← k) (ap (padded 128 0) (sym (tally_new (met xs i) (counts xs i) key h)));
        }))
        (lt_or_le p d)

    -- the colour stands at its place afterwards
    pub going_here : {ms' cs' : List ℕ} {r : ℕ} → (p ≡ 128 → ⊥) → Noted ms ms' cs cs' p d key r → (p < r) × (get_or ms' p 0 ≡ key)
    going_here {ms'} {cs'} {r} n o =
        let e = going_at in
        let le = going_le in
        ⊎_elim
        (λ (q : p < d).
        let m = o.old q in
        let h : place_of key (met xs i) < length (met xs i) = omega (arith, v.count) in
        let b : get_or ms p 0 ≡ key = rw (v.colours, e, padded-read 128 0 0 (met xs i) (place_of key (met xs i)) h) (place_at key (met xs i) h) in
        (omega (arith, m.0), rw m.1 b))
        (λ (q : d ≤ p).
        let m = o.new q in
        let z : p ≡ d = omega arith in
        let w : d < length ms = omega (arith, n, v.few, going_place.0.1) in
        (omega (arith, m.0), rw (m.1, z) (get_or-set_same ms d key 0 w)))
        (lt_or_le p d)

    -- the 129th colour
    pub going_full : (n : ℕ) → p ≡ 128 → i < n → (census 129 [] [] ≡ census_of xs n) × (t' ≡ table_to t₀ g xs n)
    unfolding census_of
    going_full n f l =
        let h : length (met xs i) ≤ place_of key (met xs i) = omega (arith, v.few, v.count, going_at) in
        let j : length (met xs (i + 1)) ≡ length (met xs i) + 1 = rw (going_more h, length-append) refl in
        let q : i + 1 + (n - (i + 1)) ≡ n = omega arith in
        let b : length (met xs (i + 1)) ≤ length (met xs n) = rw q at (met_mono itself xs (i + 1) (n - (i + 1))) in
        let m : 128 < length (met xs (i + 1)) = omega (arith, place_le key (met xs i), going_at) in
        (rw (lt-ltb 128 (length (met xs n)) (omega arith)) refl, going_table ∙ rw q at (sym (table_stays t₀ g xs (i + 1) (n - (i + 1)) m)))

  -- what `add` asks
  pub going_small : i ≤ 1024 → (e : ℕ) → e < d → get_or cs e 0 ≤ 1024
  going_small l e h = rw (v.often, padded-read 128 0 0 (counts xs i) e (omega (arith, v.count, counts-length xs i))) (omega (arith, one_le_total (counts xs i) e, counts-total xs i))

  -- the same colour once more
  going_again : (e : ℕ) → e < d → get_or xs i 0 ≡ get_or ms e 0 → Going t₀ t g xs (i + 1) d ms (set cs e (get_or cs e 0 + 1))
  going_again e h q =
      let w = going_place in
      let c = checked t g ms d e (get_or xs i 0) w.1 w.0.2 (omega (arith, w.0.0, w.0.1)) v.few h (sym q) in
      going_turn refl c.0 c.1 (λ z. omega (arith, v.few)) (record { old = λ l. (refl, refl, refl); new = λ l. absurd (omega arith) })

  pub going_done : (n : ℕ) → i ≡ n → (◌≡◌ {A = Census} (record { distinct = d; met = ms; counts = cs }) (census_of xs n)) × (t ≡ table_to t₀ g xs n)
  unfolding census_of
  going_done n e =
      rw (← e)
      (rw (le-ltb 128 (length (met xs i)) (omega (arith, v.few, v.count))) (λ j. record { distinct = v.count j; met = v.colours j; counts = v.often j }), v.table)

going_as : {t₀ t : Table} {g : ℕ} {xs : List ℕ} {i i' d : ℕ} {ms cs cs' : List ℕ} → Going t₀ t g xs i d ms cs → i ≡ i' → cs ≡ cs' → Going t₀ t g xs i' d ms cs'
going_as {t₀} {t} {g} {xs} {i} {i'} {d} {ms} {cs} {cs'} v a b = subst (λ (z : ℕ). Going t₀ t g xs z d ms cs') a (subst (λ (z : List ℕ). Going t₀ t g xs i d ms z) b v)

once_more : (cs : List ℕ) (e x k : ℕ) → e < length cs → set (set cs e (x + k)) e (get_or (set cs e (x + k)) e 0 + 1) ≡ set cs e (x + suc k)
once_more cs e x k h =
    let y : x + k + 1 ≡ x + suc k = omega arith in
    set-set cs e (x + k) (get_or (set cs e (x + k)) e 0 + 1) ∙ ap (λ (z : ℕ). set cs e (z + 1)) (get_or-set_same cs e (x + k) 0 h) ∙ ap (set cs e) y

run_next : {t₀ t : Table} {g : ℕ} {xs : List ℕ} {d : ℕ} {ms : List ℕ} (cs : List ℕ) (i e x k : ℕ) → e < d → e < length cs → Going t₀ t g xs (i + k) d ms (set cs e (x + k)) → get_or xs (i + k) 0 ≡ get_or ms e 0 → Going t₀ t g xs (i + suc k) d ms (set cs e (x + suc k))
run_next {t₀} {t} {g} {xs} {d} {ms} cs i e x k h w v q =
    let z : i + k + 1 ≡ i + suc k = omega arith in
    going_as (going_again v e h q) z (once_more cs e x k w)

-- a run of one colour, k cells long
going_run : {t₀ t : Table} {g : ℕ} {xs : List ℕ} {i d : ℕ} {ms cs : List ℕ} → Going t₀ t g xs i d ms cs → (e : ℕ) → e < d → e < length cs → (k : ℕ) → ((j : ℕ) → i ≤ j → j < i + k → get_or xs j 0 ≡ get_or ms e 0)
    → Going t₀ t g xs (i + k) d ms (set cs e (get_or cs e 0 + k))
going_run {t₀} {t} {g} {xs} {i} {d} {ms} {cs} v e h w zero s = going_as v (sym (add-zero i)) (sym (ap (set cs e) (add-zero (get_or cs e 0)) ∙ set-get_or cs e 0))
going_run {t₀} {t} {g} {xs} {i} {d} {ms} {cs} v e h w (suc k) s = run_next cs i e (get_or cs e 0) k h w (going_run v e h w k (λ j a m. s j a (omega arith))) (s (i + k) (omega arith) (omega arith))

going_wide : {t₀ t : Table} {g : ℕ} {xs : List ℕ} {i d : ℕ} {ms cs : List ℕ} → Going t₀ t g xs i d ms cs → length cs ≡ 128
going_wide {t₀} {t} {g} {xs} {i} v = ap length v.often ∙ padded-length 128 0 (counts xs i) (omega (arith, counts-length xs i, v.count, v.few))

-- one turn: a colour looked up and noted, and the rest of its run
pub going_on : {t₀ t t' : Table} {g : ℕ} {xs : List ℕ} {i d key p : ℕ} {ms cs ms' cs' cs'' : List ℕ} {r j n : ℕ} (v : Going t₀ t g xs i d ms cs) → key ≡ get_or xs i 0 → p ≡ answer_of t g key d → t' ≡ after_of t g key d → (p ≡ 128 → ⊥)
    → Noted ms ms' cs cs' p d key r → Run xs n (i + 1) key j → cs'' ≡ set cs' p (get_or cs' p 0 + (j - (i + 1))) → Going t₀ t' g xs j r ms' cs''
going_on {t₀} {t} {t'} {g} {xs} {i} {d} {key} {p} {ms} {cs} {ms'} {cs'} {cs''} {r} {j} {n} v k a b q o u e =
    let w = going_turn v k a b q o in
    let h = going_here v k a b q o in
    let z : i + 1 + (j - (i + 1)) ≡ j = omega (arith, u.low) in
    let y : p < length cs' = omega (arith, going_wide w, h.0, w.few) in
    going_as (going_run w p h.0 y (j - (i + 1)) (λ m x s. u.same m x (omega arith) ∙ sym h.1)) z (sym e)

-- a run goes on as far as what is behind its first is of its colour
pub run_of : (xs : List ℕ) (from key more : ℕ) → from ≤ length xs → more ≡ prefix_len (λ x. x == key) (take (length xs - from) (drop from xs)) → Run xs (length xs) from key (from + more)
run_of xs from key more h c =
    let p : ℕ → Bool = λ x. x == key in
    let all : take (length xs - from) (drop from xs) ≡ drop from xs = take_all (length xs - from) (drop from xs) (omega (arith, length-drop from xs)) in
    let e : more ≡ prefix_len p (drop from xs) = c ∙ ap (prefix_len p) all in
    let l : prefix_len p (drop from xs) ≤ length (drop from xs) = prefix_len-le-length p (drop from xs) in
    let w : length (drop from xs) ≡ length xs - from = length-drop from xs in record {
      low = omega arith;
      high = omega arith;
      same = λ j a b.
          let q : from + (j - from) ≡ j = omega arith in
          let r = prefix_len_passes p (drop from xs) (j - from) 0 (omega arith) in
          eqb-true (get_or xs j 0) key (rw (get_or-drop from xs (j - from) 0, q) at r);
      end = λ a b.
          let r = prefix_len_stops p (drop from xs) 0 (omega arith) in
          true_false (sym (eq-eqb (get_or xs (from + more) 0) key b) ∙ rw (get_or-drop from xs (prefix_len p (drop from xs)) 0, ← e) at r);
    }
