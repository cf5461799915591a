-- The planner's runs as edges between places, the promises of its table, and that every offer the planner makes is such an edge.
use Rattle.std.specs.Prelude.{◌≡◌, Bool, not, List, [], ◌∷◌, ◌⊎◌, Float, get_or, length}
use Rattle.std.proofs.Math.Path.{refl}
use Rattle.std.proofs.Common.{ap, sym, ◌∙◌, inl, inr, ⊎_elim, arith}
use Rattle.std.proofs.Math.Bool.{true, false}
use Prim.Native.Nat.{ℕ, zero, suc, ◌+◌, ◌*◌, ◌-◌, ◌≤◌, ◌<◌}
use Rattle.std.specs.Float.{nan}
use Rattle.std.specs.Float.Ieee.{lt}
use Rattle.base.specs.Pick.{pick, either, true_false, lt_or_le}
use Rattle.base.specs.Tests.{every}
use Rattle.base.specs.Upto.{Upto}
use Rattle.syntax.specs.Runs.{may_copy}
use Rattle.paths.specs.Cells.{copies, index_length, above_length, draws, sent_for, stops_at}
use Rattle.paths.specs.CellLaws.{index_le, index-cells, index_ends, index-some, above_le, above-cells, above_ends, above-yes, stops-copies}
use Rattle.paths.specs.Plan.{Job, Table, slot, infinite, head_rate, draw_cost, copy_cost, relaxed, stopped, indexed, copied}

-- ---- edges

-- a copy-above run from p, after a run of kind l, up to q
pub record Copy (j : Job) (p : ℕ) (l : Bool) (q : ℕ) : Type 0 where
  pub low : p < q
  pub high : q ≤ j.n
  pub may : may_copy j.size p l ≡ true
  pub cells : (i : ℕ) → p ≤ i → i < q → copies j.size j.xs i ≡ true
  pub ends : q < j.n → copies j.size j.xs q ≡ false

-- an index run; it ends where its index does, or where a cell can be copied
pub record Draw (j : Job) (p : ℕ) (l : Bool) (q : ℕ) : Type 0 where
  pub low : p < q
  pub high : q ≤ j.n
  pub starts : draws j.size j.xs p l ≡ true
  pub cells : (i : ℕ) → p ≤ i → i < q → get_or j.xs i 0 ≡ get_or j.xs p 0
  pub ends : q < j.n → (get_or j.xs q 0 ≡ get_or j.xs p 0 → ⊥) ⊎ (copies j.size j.xs q ≡ true)

abbrev pub Edge : Job → ℕ → Bool → ℕ → Bool → Type 0
Edge j p l q true = Copy j p l q
Edge j p l q false = Draw j p l q

pub edge_low : (j : Job) (p : ℕ) (l : Bool) (q : ℕ) (k : Bool) → Edge j p l q k → p < q
edge_low j p l q true e = e.low
edge_low j p l q false e = e.low

pub edge_high : (j : Job) (p : ℕ) (l : Bool) (q : ℕ) (k : Bool) → Edge j p l q k → q ≤ j.n
edge_high j p l q true e = e.high
edge_high j p l q false e = e.high

-- what a path of cost c costs with the run from p to q
abbrev pub cost_of : Job → ℕ → Bool → Float → ℕ → Bool → Float
cost_of j p l c q true = copy_cost j p c q
cost_of j p l c q false = draw_cost j p (sent_for j.size j.xs p l) (head_rate j p l c) q

-- ---- what holds of the table before an offer and after it holds after all that start at a place

both : (a b : Bool) → every (a ∷ b ∷ []) ≡ true → (a ≡ true) × (b ≡ true)
both true true e = (refl, refl)
both true false e = absurd (true_false (sym e))
both false b e = absurd (true_false (sym e))

module _ (j : Job) (p : ℕ) (l : Bool) (ph : p < j.n) where
  pub index_edge : draws j.size j.xs p l ≡ true → Draw j p l (p + index_length j.n j.xs p)
  index_edge d = record {
    low = omega (arith, index-some j.n j.xs p ph);
    high = index_le j.n j.xs p (omega arith);
    starts = d;
    cells = λ i a b. let e : p + (i - p) ≡ i = omega arith in rw e at (index-cells j.n j.xs p (i - p) (omega arith));
    ends = λ h. inl (index_ends j.n j.xs p (omega arith) h);
  }

  pub stop_edge : (q : ℕ) → draws j.size j.xs p l ≡ true → p < q → q < p + index_length j.n j.xs p → stops_at j.size j.xs p q ≡ true → Draw j p l q
  stop_edge q d low high s = record {
    low = low;
    high = omega (arith, index_le j.n j.xs p (omega arith));
    starts = d;
    cells = λ i a b. let e : p + (i - p) ≡ i = omega arith in rw e at (index-cells j.n j.xs p (i - p) (omega arith));
    ends = λ h. inr (stops-copies j.size j.xs p q s);
  }

  pub copy_edge : may_copy j.size p l ≡ true → copies j.size j.xs p ≡ true → Copy j p l (p + above_length j.size j.n j.xs p)
  copy_edge m c = record {
    low = omega (arith, above-yes j.size j.n j.xs p ph c);
    high = above_le j.size j.n j.xs p (omega arith);
    may = m;
    cells = λ i a b. let e : p + (i - p) ≡ i = omega arith in rw e at (above-cells j.size j.n j.xs p (i - p) (omega arith));
    ends = λ h. above_ends j.size j.n j.xs p (omega arith) h;
  }

module _ (j : Job) (p : ℕ) (l : Bool) (c : Float) (ph : p < j.n) (P : Table → Type 0)
    (one : (t : Table) (q : ℕ) (k : Bool) → P t → Edge j p l q k → P (relaxed t (slot q k) (cost_of j p l c q k) p l)) where
  pub stopped-keeps : draws j.size j.xs p l ≡ true → (f q : ℕ) (t : Table) → p < q → q + f ≤ p + index_length j.n j.xs p → P t
      → P (stopped (stops_at j.size j.xs p) (draw_cost j p (sent_for j.size j.xs p l) (head_rate j p l c)) p l f q t)
  unfolding stopped
  stopped-keeps d zero q t low high h = h
  stopped-keeps d (suc f) q t low high h = stopped-keeps d f (suc q) _ (omega arith) (omega arith) (at (stops_at j.size j.xs p q) refl)
    where
      at : (s : Bool) → stops_at j.size j.xs p q ≡ s → P (pick s (relaxed t (slot q false) (draw_cost j p (sent_for j.size j.xs p l) (head_rate j p l c) q) p l) t)
      at true s = one t q false h (stop_edge j p l ph q d low (omega arith) s)
      at false s = h

  pub indexed-keeps : (t : Table) → P t → P (indexed j p l c t)
  unfolding indexed
  indexed-keeps t h = at (draws j.size j.xs p l) refl
    where
      at : (d : Bool) → draws j.size j.xs p l ≡ d
          → P (pick d (relaxed (stopped (stops_at j.size j.xs p) (draw_cost j p (sent_for j.size j.xs p l) (head_rate j p l c)) p l (p + index_length j.n j.xs p - (p + 1)) (p + 1) t) (slot (p + index_length j.n j.xs p) false) (draw_cost j p (sent_for j.size j.xs p l) (head_rate j p l c) (p + index_length j.n j.xs p)) p l) t)
      at true d = one _ (p + index_length j.n j.xs p) false (stopped-keeps d (p + index_length j.n j.xs p - (p + 1)) (p + 1) t (omega arith) (omega (arith, index-some j.n j.xs p ph)) h) (index_edge j p l ph d)
      at false d = h

  pub copied-keeps : (t : Table) → P t → P (copied j p l c t)
  unfolding copied
  copied-keeps t h = at (every (may_copy j.size p l ∷ copies j.size j.xs p ∷ [])) refl
    where
      at : (b : Bool) → every (may_copy j.size p l ∷ copies j.size j.xs p ∷ []) ≡ b
          → P (pick b (relaxed t (slot (p + above_length j.size j.n j.xs p) true) (copy_cost j p c (p + above_length j.size j.n j.xs p)) p l) t)
      at true b = let s = both (may_copy j.size p l) (copies j.size j.xs p) b in one t (p + above_length j.size j.n j.xs p) true h (copy_edge j p l ph s.0 s.1)
      at false b = h

  pub both_keep : (t : Table) → P t → P (copied j p l c (indexed j p l c t))
  both_keep t h = copied-keeps (indexed j p l c t) (indexed-keeps t h)
