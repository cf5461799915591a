-- The table keeps its promises: back-pointers go by edges from slots that are reached, costs stay finite, and the last place is reached.
use Rattle.std.specs.Prelude.{◌≡◌, Bool, List, [], ◌∷◌, ◌⊎◌, eqb, Float, get_or, set, length, replicate}
use Rattle.std.proofs.Math.Path.{refl}
use Rattle.std.proofs.Common.{ap, sym, ◌∙◌, subst, inl, inr, ⊎_elim, le_refl, arith, lit≤, get_or-set_other, le-leb}
use Rattle.std.proofs.Math.Bool.{true, false}
use Prim.Native.Nat.{ℕ, zero, suc, ◌+◌, ◌*◌, ◌-◌, ◌/◌, ◌%◌, ◌≤◌, ◌<◌}
use Rattle.std.proofs.Math.Dec.{ltb}
use Rattle.std.specs.Float.{nan, inf, fin, binary32}
use Rattle.std.specs.Float.Ieee.{lt, add, of_int}
use Rattle.std.proofs.lemmas.List.{get_or-replicate}
use Rattle.base.specs.Pick.{pick, either, true_false, lt_or_le}
use Rattle.base.specs.Tests.{every}
use Rattle.base.specs.Upto.{Upto, number, add_upto, weaken, number_upto, below_infinity}
use Rattle.h265.specs.Scan.{above_at}
use Rattle.sums.specs.Finite.{index_upto}
use Rattle.syntax.specs.Runs.{may_copy}
use Rattle.syntax.specs.Replay.{reference}
use Rattle.paths.specs.Cells.{copies, index_length, above_length, draws, sent_for, stops_at}
use Rattle.paths.specs.CellLaws.{copies-row, copies-yes, draws_first, draws-yes, index-some, reference-above, reference-before}
use Rattle.paths.specs.Plan.{Price, Job, Table, slot, place_of, kind_of, infinite, alphabet_at, flag_rate, head_rate, draw_cost, copy_cost, relaxed, stopped, indexed, copied, stepped, swept, fresh, end_cost, last_kind}
use Rattle.paths.specs.Edges.{Copy, Draw, Edge, edge_low, edge_high, cost_of, index_edge, copy_edge, stopped-keeps, indexed-keeps, copied-keeps, both_keep}
use Rattle.paths.specs.Sunk.{fresh_wide}
use Rattle.paths.specs.TableLaws.{cost_at, from_place, from_kind, Reached, Wide, slot_lt, slot-low, slot-high, slot_of, place_slot, kind_slot, slot_cases, relaxed_wide, relaxed-still, relaxed_reaches, relaxed-each}

-- ---- the fresh table

fresh_else : (s : ℕ) → 0 < s → s < 2050 → get_or fresh.cost s nan ≡ infinite
fresh_else s z h = get_or-set_other (replicate 2050 infinite) 0 s (number 0) nan (λ (e : s ≡ 0). omega arith) ∙ get_or-replicate 2050 s infinite nan h

-- ---- prices that keep sums finite

pub record Fair (v : Price) : Type 0 where
  pub index : Upto 64 v.index
  pub above : Upto 64 v.above
  pub share : Upto 1 v.share
  pub run : (longest : ℕ) (above : Bool) (sent more : ℕ) → more ≤ longest → longest < 1024 → Upto 800 (v.run longest above sent more)

-- ---- the promises

-- each cost is the infinity, or a number from 0 to 1024 for each place passed; each slot that is reached is the start,
-- or is reached by an edge from the slot it points back to, which is reached too
pub record Kept (j : Job) (t : Table) : Type 0 where
  pub wide : Wide t
  pub priced : (q : ℕ) (k : Bool) → q ≤ j.n → (cost_at t q k ≡ infinite) ⊎ Upto (1024 * q) (cost_at t q k)
  pub back : (q : ℕ) (k : Bool) → q ≤ j.n → Reached t q k
      → ((q ≡ 0) × (k ≡ false)) ⊎ (Reached t (from_place t q k) (from_kind t q k) × Edge j (from_place t q k) (from_kind t q k) q k)

never : lt infinite infinite ≡ false
unfolding lt
never = refl

pub reached_upto : (j : Job) (t : Table) (q : ℕ) (k : Bool) → Kept j t → q ≤ j.n → Reached t q k → Upto (1024 * q) (cost_at t q k)
reached_upto j t q k i h r = ⊎_elim (λ z. absurd (true_false (sym (rw z at r) ∙ never))) (λ u. u) (i.priced q k h)

zero_upto : Upto 0 (number 0)
zero_upto = number_upto 0 (lit≤ tt)

fresh_kept : (j : Job) → j.n ≤ 1024 → Kept j fresh
fresh_kept j nh = record {
  wide = fresh_wide;
  priced = λ q k h. at q k h (lt_or_le 0 (slot q k));
  back = λ q k h r. ⊎_elim
      (λ (z : 0 < slot q k). absurd (true_false (sym r ∙ ap (λ (x : Float). lt x infinite) (fresh_else (slot q k) z (slot_lt q k (omega arith))) ∙ never)))
      (λ (z : slot q k ≤ 0). inl (start q k z)) (lt_or_le 0 (slot q k));
}
  where
    start : (q : ℕ) (k : Bool) → slot q k ≤ 0 → (q ≡ 0) × (k ≡ false)
    start q true z = absurd (omega arith)
    start q false z = (omega arith, refl)

    first : (q : ℕ) (k : Bool) → q ≡ 0 → k ≡ false → Upto (1024 * q) (cost_at fresh q k)
    first q k a b = rw (a, b) zero_upto

    at : (q : ℕ) (k : Bool) → q ≤ j.n → (0 < slot q k) ⊎ (slot q k ≤ 0) → (cost_at fresh q k ≡ infinite) ⊎ Upto (1024 * q) (cost_at fresh q k)
    at q k h (inl z) = inl (fresh_else (slot q k) z (slot_lt q k (omega arith)))
    at q k h (inr z) = let e = start q k z in inr (first q k e.0 e.1)

module _ (j : Job) (nh : j.n ≤ 1024) (mh : j.most ≤ 64) (m1 : 1 ≤ j.most) (fair : Fair j.price) where
  pick_upto : (b : Bool) (k : ℕ) (x : Float) → Upto k x → Upto k (pick b x (number 0))
  pick_upto true k x u = u
  pick_upto false k x u = weaken 0 k (number 0) (omega arith) zero_upto

  pick_zero : (b : Bool) (k : ℕ) (x : Float) → Upto k x → Upto k (pick b (number 0) x)
  pick_zero true k x u = weaken 0 k (number 0) (omega arith) zero_upto
  pick_zero false k x u = u

  alphabet_low : (b : Bool) → 1 ≤ pick b (j.most + 1) j.most
  alphabet_low true = omega arith
  alphabet_low false = omega arith

  alphabet_high : (b : Bool) → pick b (j.most + 1) j.most < 128
  alphabet_high true = omega arith
  alphabet_high false = omega arith

  head_upto : (p : ℕ) (l : Bool) (c : Float) (b : ℕ) → b ≤ 1048576 → Upto b c → Upto (b + 64 + 7 + 1) (head_rate j p l c)
  unfolding head_rate flag_rate
  head_upto p l c b h u =
      add_upto (b + 64 + 7) 1 _ _ (omega arith)
      (add_upto (b + 64) 7 _ _ (omega arith)
      (add_upto b 64 _ _ (omega arith) u (pick_upto (every (may_copy j.size p l ∷ ltb (p + 1) j.n ∷ [])) 64 _ fair.index))
      (index_upto (alphabet_at j.most p) (sent_for j.size j.xs p l) (alphabet_low (eqb p 0)) (alphabet_high (eqb p 0))))
      fair.share

  -- a run adds at most 1024
  pub cost_upto : (p : ℕ) (l : Bool) (c : Float) (q : ℕ) (k : Bool) → p < q → q ≤ j.n → Upto (1024 * p) c → Upto (1024 * q) (cost_of j p l c q k)
  unfolding draw_cost copy_cost
  cost_upto p l c q false low high u =
      weaken (1024 * p + 64 + 7 + 1 + 800) (1024 * q) _ (omega arith)
      (add_upto (1024 * p + 64 + 7 + 1) 800 _ _ (omega arith) (head_upto p l c (1024 * p) (omega arith) u) (pick_zero (eqb q j.n) 800 _ (fair.run (j.n - p - 1) false (sent_for j.size j.xs p l) (q - p - 1) (omega arith) (omega arith))))
  cost_upto p l c q true low high u =
      weaken (1024 * p + (64 + 800)) (1024 * q) _ (omega arith)
      (add_upto (1024 * p) (64 + 800) _ _ (omega arith) u (pick_zero (eqb q j.n) (64 + 800) _ (add_upto 64 800 _ _ (lit≤ tt) fair.above (fair.run (j.n - p - 1) true 0 (q - p - 1) (omega arith) (omega arith)))))

  -- ---- one slot's offers

  -- the promises hold, and what was reached before stays so
  record Going (t₀ t : Table) : Type 0 where
    kept : Kept j t
    still : (q : ℕ) (k : Bool) → Reached t₀ q k → Reached t q k

  module _ (t₀ : Table) (p : ℕ) (l : Bool) (ph : p < j.n) (here : Reached t₀ p l) (u : Upto (1024 * p) (cost_at t₀ p l)) where
    going_one : (t : Table) (q : ℕ) (k : Bool) → Going t₀ t → Edge j p l q k → Going t₀ (relaxed t (slot q k) (cost_of j p l (cost_at t₀ p l) q k) p l)
    going_one t q k i e =
        let low = edge_low j p l q k e in
        let high = edge_high j p l q k e in
        let qh : q ≤ 1024 = omega arith in
        let w = i.kept.wide in
        let c : Float = cost_of j p l (cost_at t₀ p l) q k in
        let on = relaxed-still t q k (cost_of j p l (cost_at t₀ p l) q k) p l w qh in record {
          kept = record {
            wide = relaxed_wide t q k _ p l w qh;
            priced = relaxed-each t q k _ p l w qh (λ x y c' p' l'. x ≤ j.n → (c' ≡ infinite) ⊎ Upto (1024 * x) c') (λ h. inr (cost_upto p l (cost_at t₀ p l) q k low high u)) i.kept.priced;
            back = relaxed-each t q k _ p l w qh
                (λ x y c' p' l'. x ≤ j.n → lt c' infinite ≡ true → ((x ≡ 0) × (y ≡ false)) ⊎ (Reached (relaxed t (slot q k) (cost_of j p l (cost_at t₀ p l) q k) p l) p' l' × Edge j p' l' x y))
                (λ a b. inr (on p l (i.still p l here), e))
                (λ x y a b. ⊎_elim inl (λ o. inr (on (from_place t x y) (from_kind t x y) o.0, o.1)) (i.kept.back x y a b));
          };
          still = λ x y r. on x y (i.still x y r);
        }

    -- the target of an edge that is offered is reached
    target : (t : Table) (q : ℕ) (k : Bool) → Going t₀ t → Edge j p l q k → Reached (relaxed t (slot q k) (cost_of j p l (cost_at t₀ p l) q k) p l) q k
    target t q k i e =
        let low = edge_low j p l q k e in
        let high = edge_high j p l q k e in
        relaxed_reaches t q k _ p l i.kept.wide (omega arith) (below_infinity (1024 * q) _ (cost_upto p l (cost_at t₀ p l) q k low high u))
        (⊎_elim inl (λ v. inr (below_infinity (1024 * q) (cost_at t q k) v)) (i.kept.priced q k high))

    after : Table
    after = copied j p l (cost_at t₀ p l) (indexed j p l (cost_at t₀ p l) t₀)

    begun : Kept j t₀ → Going t₀ t₀
    begun i = record { kept = i; still = λ q k r. r }

    after_going : Kept j t₀ → Going t₀ after
    unfolding after
    after_going i = both_keep j p l (cost_at t₀ p l) ph (Going t₀) going_one t₀ (begun i)

    -- some place further on is reached
    record Further : Type 0 where
      q : ℕ
      k : Bool
      low : p < q
      high : q ≤ j.n
      there : Reached after q k

    by_index : Kept j t₀ → draws j.size j.xs p l ≡ true → Further
    unfolding after indexed
    by_index i d =
        let s = stopped-keeps j p l (cost_at t₀ p l) ph (Going t₀) going_one d (p + index_length j.n j.xs p - (p + 1)) (p + 1) t₀ (omega arith) (omega (arith, index-some j.n j.xs p ph)) (begun i) in
        let e = index_edge j p l ph d in
        let r = target _ (p + index_length j.n j.xs p) false s e in
        let g = going_one _ (p + index_length j.n j.xs p) false s e in
        record {
          q = p + index_length j.n j.xs p;
          k = false;
          low = e.low;
          high = e.high;
          there = rw d (copied-keeps j p l (cost_at t₀ p l) ph (λ t. Going t₀ t × Reached t (p + index_length j.n j.xs p) false)
              (λ t x y o f. (going_one t x y o.0 f, relaxed-still t x y _ p l o.0.kept.wide (omega (arith, edge_high j p l x y f)) (p + index_length j.n j.xs p) false o.1)) _ (g, r)).1;
        }

    by_copy : Kept j t₀ → may_copy j.size p l ≡ true → copies j.size j.xs p ≡ true → Further
    unfolding after copied
    by_copy i m c =
        let s = indexed-keeps j p l (cost_at t₀ p l) ph (Going t₀) going_one t₀ (begun i) in
        let e = copy_edge j p l ph m c in
        record {
          q = p + above_length j.size j.n j.xs p;
          k = true;
          low = e.low;
          high = e.high;
          there = rw (m, c) (target _ (p + above_length j.size j.n j.xs p) true s e);
        }

    -- from every slot that is reached some run goes on
    leaving : Kept j t₀ → (draws j.size j.xs p l ≡ true) ⊎ ((may_copy j.size p l ≡ true) × (copies j.size j.xs p ≡ true))
    leaving i = ⊎_elim (λ z. inl (draws_first j.size j.xs p l z.0)) (λ o. from l (from_place t₀ p l) (from_kind t₀ p l) o.1) (i.back p l (omega arith) here)
      where
        after_copy : get_or j.xs p 0 ≡ reference j.size true j.xs p → get_or j.xs p 0 ≡ above_at j.size j.xs p
        after_copy s = s ∙ reference-above j.size j.xs p

        after_draw : get_or j.xs p 0 ≡ reference j.size false j.xs p → get_or j.xs p 0 ≡ get_or j.xs (p - 1) 0
        after_draw s = s ∙ reference-before j.size j.xs p

        from : (l : Bool) (a : ℕ) (b : Bool) → Edge j a b p l → (draws j.size j.xs p l ≡ true) ⊎ ((may_copy j.size p l ≡ true) × (copies j.size j.xs p ≡ true))
        from true a b e =
            let c = e.ends ph in
            let r = copies-row j.size j.xs a (e.cells a (omega arith) e.low) in
            inl (draws-yes j.size j.xs p true (omega (arith, e.low)) (λ s. true_false (sym (copies-yes j.size j.xs p (omega (arith, e.low)) (after_copy s)) ∙ c)))
        from false a b e =
            ⊎_elim
            (λ d. inl (draws-yes j.size j.xs p false (omega (arith, e.low)) (λ s. d (after_draw s ∙ e.cells (p - 1) (omega (arith, e.low)) (omega (arith, e.low))))))
            (λ c. inr (le-leb j.size p (copies-row j.size j.xs p c), c))
            (e.ends ph)

    goes_on : Kept j t₀ → Further
    goes_on i = ⊎_elim (λ d. by_index i d) (λ c. by_copy i c.0 c.1) (leaving i)

  -- ---- all slots

  -- some slot from s on is reached
  record Alive (s : ℕ) (t : Table) : Type 0 where
    q : ℕ
    k : Bool
    far : s ≤ slot q k
    near : q ≤ j.n
    here : Reached t q k

  stepped_kept : (s : ℕ) (t : Table) → s < j.n * 2 → Kept j t → Alive s t → Kept j (stepped j s t) × Alive (suc s) (stepped j s t)
  unfolding stepped after
  stepped_kept s t h i a = at (lt (get_or t.cost s nan) infinite) refl
    where
      p : ℕ
      p = place_of s

      l : Bool
      l = kind_of s

      same : cost_at t p l ≡ get_or t.cost s nan
      same = rw (slot_of s)

      on : Table
      on = copied j p l (get_or t.cost s nan) (indexed j p l (get_or t.cost s nan) t)

      at : (b : Bool) → lt (get_or t.cost s nan) infinite ≡ b → Kept j (pick b on t) × Alive (suc s) (pick b on t)
      at false e = (i, record { q = a.q; k = a.k; far = other; near = a.near; here = a.here })
        where
          other : suc s ≤ slot a.q a.k
          other = ⊎_elim (λ (o : s < slot a.q a.k). o) (λ (o : slot a.q a.k ≤ s).
              let z : slot a.q a.k ≡ s = omega (arith, a.far) in absurd (true_false (sym (rw z at a.here) ∙ e))) (lt_or_le s (slot a.q a.k))
      at true e =
          let here : Reached t p l = ap (λ (x : Float). lt x infinite) same ∙ e in
          let u = reached_upto j t p l i (omega arith) here in
          rw (← same) ((after_going t p l (omega arith) here u i).kept, ahead here u)
        where
          ahead : (here : Reached t p l) (u : Upto (1024 * p) (cost_at t p l)) → Alive (suc s) (copied j p l (cost_at t p l) (indexed j p l (cost_at t p l) t))
          ahead here u =
              let f = goes_on t p l (omega arith) here u i in
              record { q = f.q; k = f.k; far = omega (arith, f.low, slot-low f.q f.k, slot-high p l, slot_of s); near = f.high; here = f.there }

  swept_kept : (s : ℕ) → s ≤ j.n * 2 → Kept j (swept j s fresh) × Alive s (swept j s fresh)
  unfolding swept
  swept_kept zero h = (fresh_kept j nh, record { q = 0; k = false; far = omega arith; near = omega arith; here = below_infinity 0 (number 0) zero_upto })
  swept_kept (suc s) h = let o = swept_kept s (omega arith) in stepped_kept s (swept j s fresh) (omega arith) o.0 o.1

  pub done-kept : Kept j (swept j (j.n * 2) fresh)
  done-kept = (swept_kept (j.n * 2) (le_refl _)).0

  -- the last place is reached
  pub done-reached : (Reached (swept j (j.n * 2) fresh) j.n false) ⊎ (Reached (swept j (j.n * 2) fresh) j.n true)
  done-reached = let a = (swept_kept (j.n * 2) (le_refl _)).1 in at a.q a.k a.far a.near a.here
    where
      kinds : (k : Bool) → Reached (swept j (j.n * 2) fresh) j.n k → (Reached (swept j (j.n * 2) fresh) j.n false) ⊎ (Reached (swept j (j.n * 2) fresh) j.n true)
      kinds true r = inr r
      kinds false r = inl r

      at : (q : ℕ) (k : Bool) → j.n * 2 ≤ slot q k → q ≤ j.n → Reached (swept j (j.n * 2) fresh) q k → (Reached (swept j (j.n * 2) fresh) j.n false) ⊎ (Reached (swept j (j.n * 2) fresh) j.n true)
      at q k far near r = let e : q ≡ j.n = omega (arith, slot-high q k) in kinds k (rw e at r)
