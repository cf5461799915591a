-- The run rules as a test that computes, for a contract that says exactly when refusal 8 is given; and that it is the rules.
use Rattle.std.specs.Prelude.{◌≡◌, refl, ◌≢◌, Bool, false, List, [], ◌∷◌, ℕ, zero, suc, ◌+◌, ◌≤◌, ◌<◌, ltb, eqb, length}
use Rattle.std.proofs.Common.{ap, sym, ◌∙◌, add-zero, arith}
use Rattle.std.proofs.Math.Bool.{true}
use Rattle.std.proofs.Math.ListN.{get_or}
use borrow.Author.Tests.{lt-ltb, ltb-true, eqb-true, eqb-false, eq-eqb, ne_eqb}
use Rattle.base.specs.Pick.{pick, either}
use Rattle.base.specs.Pick.{true_false}
use Rattle.syntax.specs.Runs.{Run, may_copy}
use Rattle.h265.specs.Scan.{above_at}
use Rattle.syntax.specs.Replay.{reference, less_one, Copies, Draws, Rules, Replays}

-- both tests hold, the second looked at only where the first does
unfoldable pub both : Bool → Bool → Bool
both true b = b
both false b = false

pub both_true : (a b : Bool) → both a b ≡ true → (a ≡ true) × (b ≡ true)
unfolding both
both_true true b e = (refl, e)
both_true false b e = absurd (true_false (sym e))

pub true_both : (a b : Bool) → a ≡ true → b ≡ true → both a b ≡ true
unfolding both
true_both a b x y = rw (x, y)

-- k cells from place i on hold the index above
unfoldable pub copied : ℕ → List ℕ → ℕ → ℕ → Bool
copied size xs zero i = true
copied size xs (suc k) i = both (eqb (get_or xs i 0) (above_at size xs i)) (copied size xs k (suc i))

-- k cells from place i on hold v
unfoldable pub drawn : ℕ → List ℕ → ℕ → ℕ → Bool
drawn v xs zero i = true
drawn v xs (suc k) i = both (eqb (get_or xs i 0) v) (drawn v xs k (suc i))

unfoldable pub sent_right : ℕ → ℕ → List ℕ → ℕ → Bool → ℕ → Bool
sent_right size m xs scan prev sent =
    pick (eqb scan 0)
    (both (eqb sent (get_or xs scan 0)) (ltb sent (m + 1)))
    (pick (eqb (get_or xs scan 0) (reference size prev xs scan)) false
    (both (eqb sent (less_one (get_or xs scan 0) (reference size prev xs scan))) (ltb sent m)))

unfoldable pub rules : ℕ → ℕ → List ℕ → ℕ → Bool → Run → Bool
rules size m xs scan prev r =
    both (eqb r.start scan)
    (pick r.above
    (both (may_copy size scan prev) (both (eqb r.sent 0) (copied size xs (suc r.more) scan)))
    (both (sent_right size m xs scan prev r.sent) (drawn (get_or xs scan 0) xs (suc r.more) scan)))

unfoldable pub replays : ℕ → ℕ → ℕ → List ℕ → ℕ → Bool → List Run → Bool
replays size n m xs scan prev [] = eqb scan n
replays size n m xs scan prev (r ∷ rs) =
    let rest : Bool = replays size n m xs (scan + r.more + 1) r.above rs in
    both (rules size m xs scan prev r) rest

-- ---- cell by cell

copied_all : (size : ℕ) (xs : List ℕ) (k i : ℕ) → copied size xs k i ≡ true → (j : ℕ) → j < k → get_or xs (i + j) 0 ≡ above_at size xs (i + j)
unfolding copied
copied_all size xs zero i e j h = absurd (omega arith)
copied_all size xs (suc k) i e zero h = rw add-zero (eqb-true (get_or xs i 0) (above_at size xs i) (both_true _ _ e).0)
copied_all size xs (suc k) i e (suc j) h =
    let b : i + suc j ≡ suc i + j = omega arith in
    rw b (copied_all size xs k (suc i) (both_true (eqb (get_or xs i 0) (above_at size xs i)) (copied size xs k (suc i)) e).1 j (omega arith))

all-copied : (size : ℕ) (xs : List ℕ) (k i : ℕ) → ((j : ℕ) → j < k → get_or xs (i + j) 0 ≡ above_at size xs (i + j)) → copied size xs k i ≡ true
unfolding copied
all-copied size xs zero i h = refl
all-copied size xs (suc k) i h =
    true_both _ _ (eq-eqb _ _ (rw add-zero at (h 0 (omega arith))))
    (all-copied size xs k (suc i) (λ j o. let b : i + suc j ≡ suc i + j = omega arith in rw b at (h (suc j) (omega arith))))

drawn-all : (v : ℕ) (xs : List ℕ) (k i : ℕ) → drawn v xs k i ≡ true → (j : ℕ) → j < k → get_or xs (i + j) 0 ≡ v
unfolding drawn
drawn-all v xs zero i e j h = absurd (omega arith)
drawn-all v xs (suc k) i e zero h = rw add-zero (eqb-true (get_or xs i 0) v (both_true _ _ e).0)
drawn-all v xs (suc k) i e (suc j) h =
    let b : i + suc j ≡ suc i + j = omega arith in
    rw b (drawn-all v xs k (suc i) (both_true (eqb (get_or xs i 0) v) (drawn v xs k (suc i)) e).1 j (omega arith))

all-drawn : (v : ℕ) (xs : List ℕ) (k i : ℕ) → ((j : ℕ) → j < k → get_or xs (i + j) 0 ≡ v) → drawn v xs k i ≡ true
unfolding drawn
all-drawn v xs zero i h = refl
all-drawn v xs (suc k) i h =
    true_both _ _ (eq-eqb _ _ (rw add-zero at (h 0 (omega arith))))
    (all-drawn v xs k (suc i) (λ j o. let b : i + suc j ≡ suc i + j = omega arith in rw b at (h (suc j) (omega arith))))

-- ---- run by run

module _ (size m : ℕ) (xs : List ℕ) (scan : ℕ) (prev : Bool) (r : Run) where
  positive : (n : ℕ) → (n ≡ 0 → ⊥) → 0 < n
  positive zero h = absurd (h refl)
  positive (suc n) h = omega arith

  draws-of : sent_right size m xs scan prev r.sent ≡ true → drawn (get_or xs scan 0) xs (suc r.more) scan ≡ true → Draws size m xs scan prev r
  unfolding sent_right
  draws-of e d =
      let cells : (j : ℕ) → j ≤ r.more → get_or xs (scan + j) 0 ≡ get_or xs scan 0 = λ j h. drawn-all (get_or xs scan 0) xs (suc r.more) scan d j (omega arith) in
      either (eqb scan 0)
      (λ t.
      let b = both_true _ _ (rw t at e) in
      record {
        first = λ z. (eqb-true _ _ b.0, ltb-true _ _ b.1);
        other = λ o. absurd (omega (arith, eqb-true scan 0 t));
        sent = λ o. absurd (omega (arith, eqb-true scan 0 t));
        below = λ o. absurd (omega (arith, eqb-true scan 0 t));
        cells = cells;
      })
      (λ t. either (eqb (get_or xs scan 0) (reference size prev xs scan))
      (λ u. absurd (true_false (sym (rw (t, u) at e))))
      (λ u.
      let b = both_true _ _ (rw (t, u) at e) in
      record {
        first = λ z. absurd (eqb-false scan 0 t z);
        other = λ o. eqb-false _ _ u;
        sent = λ o. eqb-true _ _ b.0;
        below = λ o. ltb-true _ _ b.1;
        cells = cells;
      }))

  of-draws : Draws size m xs scan prev r → both (sent_right size m xs scan prev r.sent) (drawn (get_or xs scan 0) xs (suc r.more) scan) ≡ true
  unfolding sent_right both
  of-draws d =
      let c : drawn (get_or xs scan 0) xs (suc r.more) scan ≡ true = all-drawn (get_or xs scan 0) xs (suc r.more) scan (λ j h. d.cells j (omega arith)) in
      either (eqb scan 0)
      (λ t.
      let f = d.first (eqb-true scan 0 t) in
      rw (t, eq-eqb _ _ f.0, lt-ltb _ _ f.1) c)
      (λ t.
      let o : 0 < scan = positive scan (eqb-false scan 0 t) in
      rw (t, ne_eqb _ _ (d.other o), eq-eqb _ _ (d.sent o), lt-ltb _ _ (d.below o)) c)

  rules-of : rules size m xs scan prev r ≡ true → Rules size m xs scan prev r
  unfolding rules
  rules-of e =
      let a = both_true _ _ e in
      record {
        start = eqb-true _ _ a.0;
        copies = λ t.
            let b = both_true _ _ (rw t at a.1) in
            let c = both_true _ _ b.1 in
            record { may = b.0; none = eqb-true _ _ c.0; cells = λ j h. copied_all size xs (suc r.more) scan c.1 j (omega arith) };
        draws = λ t. let b = both_true _ _ (rw t at a.1) in draws-of b.0 b.1;
      }

  of-rules : Rules size m xs scan prev r → rules size m xs scan prev r ≡ true
  unfolding rules both
  of-rules k =
      either r.above
      (λ t.
      let c = k.copies t in
      rw (t, eq-eqb _ _ k.start, c.may, eq-eqb _ _ c.none) (all-copied size xs (suc r.more) scan (λ j h. c.cells j (omega arith))))
      (λ t. rw (t, eq-eqb _ _ k.start) (of-draws (k.draws t)))

pub replays-rules : (size n m : ℕ) (xs : List ℕ) (scan : ℕ) (prev : Bool) (rs : List Run) → replays size n m xs scan prev rs ≡ true → Replays size n m xs scan prev rs
unfolding replays
replays-rules size n m xs scan prev [] e = eqb-true scan n e
replays-rules size n m xs scan prev (r ∷ rs) e =
    let a = both_true (rules size m xs scan prev r) (replays size n m xs (scan + r.more + 1) r.above rs) e in
    (rules-of size m xs scan prev r a.0, replays-rules size n m xs (scan + r.more + 1) r.above rs a.1)

pub rules-replays : (size n m : ℕ) (xs : List ℕ) (scan : ℕ) (prev : Bool) (rs : List Run) → Replays size n m xs scan prev rs → replays size n m xs scan prev rs ≡ true
unfolding replays
rules-replays size n m xs scan prev [] k = eq-eqb scan n k
rules-replays size n m xs scan prev (r ∷ rs) k =
    true_both (rules size m xs scan prev r) (replays size n m xs (scan + r.more + 1) r.above rs) (of-rules size m xs scan prev r k.0) (rules-replays size n m xs (scan + r.more + 1) r.above rs k.1)
