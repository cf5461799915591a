-- The planned runs: they go from place 0 to n without a gap, each by the run rules, and replay to the block's indices.
use Rattle.std.specs.Prelude.{◌≡◌, ◌⊎◌, ℕ, zero, suc, ◌+◌, ◌*◌, ◌-◌, ◌≤◌, ◌<◌, eqb, ltb, Float, get_or, length, take}
use Rattle.std.proofs.Math.Path.{refl, ap}
use Rattle.std.proofs.Common.{sym, ◌∙◌, inl, inr, le_refl, get_or-take, length-take-le}
use Rattle.std.proofs.Math.Bool.{Bool, true, false}
use mathlib.Core.List.{List, [], ◌∷◌, ◌++◌}
use Rattle.std.proofs.Math.Logic.{⊎_elim}
use native.Mathlib.Omega.{arith}
use Rattle.std.specs.Float.{nan, inf, fin, binary32}
use Rattle.std.specs.Float.Ieee.{lt, add}
use borrow.Author.Tests.{eq-eqb, ne_eqb, eqb-true, eqb-false, ltb-true, ltb-false}
use Rattle.base.specs.Pick.{pick, either, true_false}
use Rattle.base.specs.Upto.{Upto, add_upto, below_infinity}
use Rattle.h265.specs.Scan.{above_at}
use Rattle.h265.specs.ScanLaws.{above_before}
use Rattle.syntax.specs.Runs.{Run, may_copy}
use Rattle.syntax.specs.Replay.{reference, less_one, Copies, Draws, Rules, Replays, replay}
use Rattle.syntax.proofs.ReplayLaws.{above-take, rules-replay}
use Rattle.paths.specs.Cells.{copies, draws, sent_from, sent_for}
use Rattle.paths.specs.CellLaws.{copies-row, copies-same, draws_differs, reference-above, reference-before}
use Rattle.paths.specs.Plan.{Price, Job, Table, Point, point, slot, infinite, swept, fresh, trail, run_to, runs_of, end_cost, last_kind, planned}
use Rattle.paths.specs.Edges.{Copy, Draw, Edge, edge_low, edge_high}
use Rattle.paths.specs.TableLaws.{cost_at, from_place, from_kind, Reached}
use Rattle.covers.specs.Reach.{Fair, Kept, reached_upto, done-kept, done-reached}

-- ---- the end that is chosen is reached

-- the infinity and a number have the infinity for their sum, which is below nothing
infinite-add : (k : ℕ) (x : Float) → Upto k x → add binary32 infinite x ≡ infinite
unfolding add Upto
infinite-add k nan u = absurd u
infinite-add k (inf s) u = absurd u
infinite-add k (fin s m e) u = refl

infinite-least : (y : Float) → lt infinite y ≡ false
unfolding lt
infinite-least nan = refl
infinite-least (inf true) = refl
infinite-least (inf false) = refl
infinite-least (fin s m e) = refl

module _ (j : Job) (nh : j.n ≤ 1024) (mh : j.most ≤ 64) (m1 : 1 ≤ j.most) (fair : Fair j.price) where
  done : Table
  done = swept j (j.n * 2) fresh

  kept : Kept j done
  unfolding done
  kept = done-kept j nh mh m1 fair

  end_finite : (k : Bool) → Upto (1024 * j.n) (cost_at done j.n k) → lt (end_cost j done k) infinite ≡ true
  unfolding end_cost
  end_finite true u = below_infinity (1024 * j.n + 64) _ (add_upto (1024 * j.n) 64 _ _ (omega arith) u fair.above)
  end_finite false u = below_infinity (1024 * j.n + 64) _ (add_upto (1024 * j.n) 64 _ _ (omega arith) u fair.index)

  end-infinite : (k : Bool) → cost_at done j.n k ≡ infinite → end_cost j done k ≡ infinite
  unfolding end_cost
  end-infinite true z = rw z (infinite-add 64 j.price.above fair.above)
  end-infinite false z = rw z (infinite-add 64 j.price.index fair.index)

  last-reached : (k : Bool) → lt (end_cost j done true) (end_cost j done false) ≡ k → Reached done j.n k
  unfolding done
  last-reached true e =
      ⊎_elim
      (λ z. absurd (true_false (sym e ∙ rw (end-infinite true z) (infinite-least _))))
      (λ u. below_infinity (1024 * j.n) _ u) (kept.priced j.n true (le_refl _))
  last-reached false e =
      ⊎_elim (λ r. r)
      (λ r. ⊎_elim
      (λ z. absurd (true_false (sym (end_finite true (reached_upto j done j.n true kept (le_refl _) r)) ∙ ap (lt (end_cost j done true)) (sym (end-infinite false z)) ∙ e)))
      (λ u. below_infinity (1024 * j.n) _ u) (kept.priced j.n false (le_refl _)))
      (done-reached j nh mh m1 fair)

  pub chosen-reached : Reached (swept j (j.n * 2) fresh) j.n (last_kind j (swept j (j.n * 2) fresh))
  unfolding last_kind done
  chosen-reached = last-reached (lt (end_cost j done true) (end_cost j done false)) refl

  pub total_finite : lt (planned j).total infinite ≡ true
  unfolding planned last_kind done
  total_finite = let k : Bool = lt (end_cost j done true) (end_cost j done false) in end_finite k (reached_upto j done j.n k kept (le_refl _) (last-reached k refl))

-- ---- paths

-- from p, after a run of kind l, by edges to each of the points in turn, of which the last is q with a run of kind k
abbrev pub Path : Job → ℕ → Bool → List Point → ℕ → Bool → Type 0
Path j p l [] q k = (p ≡ q) × (l ≡ k)
Path j p l (e ∷ es) q k = Edge j p l e.place e.kind × Path j e.place e.kind es q k

path_more : (j : Job) (p : ℕ) (l : Bool) (es : List Point) (q : ℕ) (k : Bool) (x : ℕ) (y : Bool) → Path j p l es q k → Edge j q k x y → Path j p l (es ++ (point x y ∷ [])) x y
path_more j p l [] q k x y h e = (rw (h.0, h.1) e, (refl, refl))
path_more j p l (o ∷ es) q k x y h e = (h.0, path_more j o.place o.kind es q k x y h.1 e)

pub trail_path : (j : Job) (t : Table) → Kept j t → (f q : ℕ) (k : Bool) → q ≤ f → q ≤ j.n → Reached t q k → Path j 0 false (trail t.pos t.st f q k) q k
unfolding trail
trail_path j t i zero q k h nh r =
    ⊎_elim (λ z. rw (z.0, z.1) (refl, refl)) (λ b. absurd (omega (arith, edge_low j _ _ q k b.1))) (i.back q k nh r)
trail_path j t i (suc f) q k h nh r =
    ⊎_elim
    (λ z. rw (z.0, z.1) (refl, refl))
    (λ b.
    let low = edge_low j (from_place t q k) (from_kind t q k) q k b.1 in
    let o : q ≡ 0 → ⊥ = λ e. omega arith in
    rw (ne_eqb q 0 o) (path_more j 0 false (trail t.pos t.st f (from_place t q k) (from_kind t q k)) (from_place t q k) (from_kind t q k) q k
    (trail_path j t i f (from_place t q k) (from_kind t q k) (omega arith) (omega arith) b.0) b.1))
    (i.back q k nh r)

-- ---- the run rules

-- every index is at most M
abbrev pub Indices : Job → Type 0
Indices j = (i : ℕ) → i < j.n → get_or j.xs i 0 ≤ j.most

module _ (j : Job) (s1 : 1 ≤ j.size) (few : Indices j) where
  cell-take : (i : ℕ) → i < j.n → get_or (take j.n j.xs) i 0 ≡ get_or j.xs i 0
  cell-take i h = get_or-take j.n j.xs i 0 h

  reference_in_lem : (k : Bool) (i : ℕ) → 0 < i → i < j.n → reference j.size k (take j.n j.xs) i ≡ reference j.size k j.xs i
  reference_in_lem true i z h =
      rw (reference-above j.size (take j.n j.xs) i, reference-above j.size j.xs i) (above-take j.size j.n i j.xs (omega arith) s1)
  reference_in_lem false i z h =
      rw (reference-before j.size (take j.n j.xs) i, reference-before j.size j.xs i) (cell-take (i - 1) (omega arith))

  above-few : (i : ℕ) → i < j.n → above_at j.size j.xs i ≤ j.most
  unfolding above_at
  above-few i h =
      either (ltb i j.size)
      (λ t. rw t (omega arith))
      (λ t. rw t (few _ (omega (arith, above_before j.size i (ltb-false i j.size t) s1))))

  reference-few : (k : Bool) (i : ℕ) → 0 < i → i < j.n → reference j.size k j.xs i ≤ j.most
  reference-few true i z h = rw (reference-above j.size j.xs i) (above-few i h)
  reference-few false i z h = rw (reference-before j.size j.xs i) (few (i - 1) (omega arith))

  less_below : (v r m : ℕ) → v ≤ m → r ≤ m → (v ≡ r → ⊥) → less_one v r < m
  unfolding less_one
  less_below v r m a b d = either (ltb r v) (λ t. rw t (omega (arith, ltb-true r v t))) (λ t. rw t (strict (ltb-false r v t)))
    where
      differ : v ≤ r → v < r
      differ o = omega arith

      strict : v ≤ r → v < m
      strict o = omega (arith, differ o)

  sent_first : (p : ℕ) (k : Bool) → p ≡ 0 → sent_for j.size j.xs p k ≡ get_or j.xs p 0
  unfolding sent_from
  sent_first p k e = rw (eq-eqb p 0 e)

  sent_later : (p : ℕ) (k : Bool) → 0 < p → sent_for j.size j.xs p k ≡ less_one (get_or j.xs p 0) (reference j.size k j.xs p)
  unfolding sent_from
  sent_later p k h = let o : p ≡ 0 → ⊥ = λ e. omega arith in rw (ne_eqb p 0 o)

  run_rules : (p : ℕ) (l : Bool) (q : ℕ) (k : Bool) → Edge j p l q k → Rules j.size j.most (take j.n j.xs) p l (run_to j.size j.xs p l (point q k))
  unfolding run_to
  run_rules p l q true e = record {
    start = refl;
    copies = λ t. record {
      may = e.may;
      none = refl;
      cells = λ i h.
          let o : p + i < q = omega (arith, e.low) in
          let n : p + i < j.n = omega (arith, e.high) in
          rw (cell-take (p + i) n, above-take j.size j.n (p + i) j.xs (omega arith) s1) (copies-same j.size j.xs (p + i) (e.cells (p + i) (omega arith) o));
    };
    draws = λ t. absurd (true_false t);
  }
  run_rules p l q false e = record {
    start = refl;
    copies = λ t. absurd (true_false (sym t));
    draws = λ t.
        let n : p < j.n = omega (arith, e.low, e.high) in record {
          first = λ z. (rw (cell-take p n) (sent_first p l z), rw (sent_first p l z) (omega (arith, few p n)));
          other = λ z. rw (cell-take p n, reference_in_lem l p z n) (draws_differs j.size j.xs p l z e.starts);
          sent = λ z. rw (cell-take p n, reference_in_lem l p z n) (sent_later p l z);
          below = λ z. rw (sent_later p l z) (less_below _ _ j.most (few p n) (reference-few l p z n) (draws_differs j.size j.xs p l z e.starts));
          cells = λ i h.
              let o : p + i < q = omega (arith, e.low) in
              rw (cell-take (p + i) (omega (arith, e.high)), cell-take p n) (e.cells (p + i) (omega arith) o);
        };
  }

  pub path_replays : (p : ℕ) (l : Bool) (es : List Point) (k : Bool) → Path j p l es j.n k → Replays j.size j.n j.most (take j.n j.xs) p l (runs_of j.size j.xs p l es)
  unfolding runs_of run_to
  path_replays p l [] k h = h.0
  path_replays p l (e ∷ es) k h =
      let low = edge_low j p l e.place e.kind h.0 in
      let z : p + (e.place - p - 1) + 1 ≡ e.place = omega arith in
      (run_rules p l e.place e.kind h.0, on z (path_replays e.place e.kind es k h.1))
    where
      on-more : (e : Point) → p + (e.place - p - 1) + 1 ≡ e.place → Replays j.size j.n j.most (take j.n j.xs) e.place e.kind (runs_of j.size j.xs e.place e.kind es)
          → Replays j.size j.n j.most (take j.n j.xs) (p + (run_to j.size j.xs p l e).more + 1) (run_to j.size j.xs p l e).above (runs_of j.size j.xs e.place e.kind es)
      on-more e z r = rw z r

      on : p + (e.place - p - 1) + 1 ≡ e.place → Replays j.size j.n j.most (take j.n j.xs) e.place e.kind (runs_of j.size j.xs e.place e.kind es)
          → Replays j.size j.n j.most (take j.n j.xs) (p + (run_to j.size j.xs p l e).more + 1) (run_to j.size j.xs p l e).above (runs_of j.size j.xs e.place e.kind es)
      on z r = on-more e z r

-- ---- the plan

module _ (j : Job) (nh : j.n ≤ 1024) (mh : j.most ≤ 64) (m1 : 1 ≤ j.most) (fair : Fair j.price) (s1 : 1 ≤ j.size) (few : Indices j) where
  -- the planned runs keep the run rules
  pub planned-rules : Replays j.size j.n j.most (take j.n j.xs) 0 false (planned j).runs
  unfolding planned
  planned-rules =
      let t : Table = swept j (j.n * 2) fresh in
      path_replays j s1 few 0 false (trail (swept j (j.n * 2) fresh).pos (swept j (j.n * 2) fresh).st j.n j.n (last_kind j (swept j (j.n * 2) fresh))) (last_kind j (swept j (j.n * 2) fresh))
      (trail_path j (swept j (j.n * 2) fresh) (done-kept j nh mh m1 fair) j.n j.n (last_kind j (swept j (j.n * 2) fresh)) (le_refl _) (le_refl _) (chosen-reached j nh mh m1 fair))

  -- and replay to the block's indices
  pub planned-replay : j.n ≤ length j.xs → replay j.size false [] (planned j).runs ≡ take j.n j.xs
  planned-replay h = rules-replay j.size j.n j.most (take j.n j.xs) 0 false (planned j).runs s1 (length-take-le j.n j.xs h) planned-rules
