-- Prices that agree on the runs there are give the same plan.
use Rattle.std.specs.Prelude.{◌≡◌, Bool, List, [], ◌∷◌, Float, get_or}
use Rattle.std.proofs.Math.Path.{refl}
use Rattle.std.proofs.Common.{ap, sym, ◌∙◌, le_refl, arith}
use Rattle.std.proofs.Math.Bool.{true, false}
use Prim.Native.Nat.{ℕ, zero, suc, ◌+◌, ◌*◌, ◌-◌, ◌/◌, ◌≤◌, ◌<◌}
use Rattle.std.specs.Float.{nan}
use Rattle.std.specs.Float.Ieee.{lt}
use Rattle.base.specs.Pick.{pick, either}
use Rattle.syntax.specs.Runs.{may_copy}
use Rattle.paths.specs.Cells.{copies, index_length, above_length, sent_for, stops_at}
use Rattle.paths.specs.CellLaws.{index_le, index-some, above_le, above-yes}
use Rattle.paths.specs.Plan.{Price, Job, job, Table, place_of, kind_of, flag_rate, head_rate, draw_cost, copy_cost, stopped, indexed, copied, stepped, swept, fresh, end_cost, last_kind, trail, runs_of, planned}

pub record Same (n : ℕ) (v w : Price) : Type 0 where
  pub index : v.index ≡ w.index
  pub above : v.above ≡ w.above
  pub share : v.share ≡ w.share
  pub run : (longest : ℕ) (above : Bool) (sent more : ℕ) → more ≤ longest → longest < n → v.run longest above sent more ≡ w.run longest above sent more

stopped-same : (stop : ℕ → Bool) (g h : ℕ → Float) (p : ℕ) (k : Bool) (f q : ℕ) (t : Table) → ((i : ℕ) → q ≤ i → i < q + f → g i ≡ h i) → stopped stop g p k f q t ≡ stopped stop h p k f q t
unfolding stopped
stopped-same stop g h p k zero q t e = refl
stopped-same stop g h p k (suc f) q t e = rw (e q (omega arith) (omega arith)) (stopped-same stop g h p k f (suc q) _ (λ i a b. e i (omega arith) (omega arith)))

module _ (size n most : ℕ) (xs : List ℕ) (v w : Price) (s : Same n v w) where
  head-same : (p : ℕ) (k : Bool) (c : Float) → head_rate (job size n most xs v) p k c ≡ head_rate (job size n most xs w) p k c
  unfolding head_rate flag_rate
  head-same p k c = rw (s.index, s.share)

  draw_same : (p sent : ℕ) (head : Float) (q : ℕ) → p < q → q ≤ n → draw_cost (job size n most xs v) p sent head q ≡ draw_cost (job size n most xs w) p sent head q
  unfolding draw_cost
  draw_same p sent head q h g = rw (s.run (n - p - 1) false sent (q - p - 1) (omega arith) (omega arith))

  copy_same : (p : ℕ) (c : Float) (q : ℕ) → p < q → q ≤ n → copy_cost (job size n most xs v) p c q ≡ copy_cost (job size n most xs w) p c q
  unfolding copy_cost
  copy_same p c q h g = rw (s.above, s.run (n - p - 1) true 0 (q - p - 1) (omega arith) (omega arith))

  indexed-same : (p : ℕ) (k : Bool) (c : Float) (t : Table) → p < n → indexed (job size n most xs v) p k c t ≡ indexed (job size n most xs w) p k c t
  unfolding indexed
  indexed-same p k c t h =
      let a = index_le n xs p (omega arith) in
      let b = index-some n xs p h in
      rw (
        head-same p k c,
        draw_same p (sent_for size xs p k) (head_rate (job size n most xs w) p k c) (p + index_length n xs p) (omega arith) a,
        stopped-same (stops_at size xs p) (draw_cost (job size n most xs v) p (sent_for size xs p k) (head_rate (job size n most xs w) p k c)) (draw_cost (job size n most xs w) p (sent_for size xs p k) (head_rate (job size n most xs w) p k c)) p k (p + index_length n xs p - (p + 1)) (p + 1) t
            (λ i x y. draw_same p (sent_for size xs p k) (head_rate (job size n most xs w) p k c) i (omega arith) (omega arith)),
      )

  copied-same : (p : ℕ) (k : Bool) (c : Float) (t : Table) → p < n → copied (job size n most xs v) p k c t ≡ copied (job size n most xs w) p k c t
  unfolding copied
  copied-same p k c t h =
      either (copies size xs p)
      (λ y.
      let o : p < p + above_length size n xs p = omega (arith, above-yes size n xs p h y) in
      rw (copy_same p c (p + above_length size n xs p) o (above_le size n xs p (omega arith))))
      (λ y. rw y (either (may_copy size p k) (λ z. rw z) (λ z. rw z)))

  stepped_same : (i : ℕ) (t : Table) → i < n * 2 → stepped (job size n most xs v) i t ≡ stepped (job size n most xs w) i t
  unfolding stepped
  stepped_same i t h = rw (indexed-same (place_of i) (kind_of i) (get_or t.cost i nan) t (omega arith), copied-same (place_of i) (kind_of i) (get_or t.cost i nan) (indexed (job size n most xs w) (place_of i) (kind_of i) (get_or t.cost i nan) t) (omega arith))

  pub swept_same : (i : ℕ) (t : Table) → i ≤ n * 2 → swept (job size n most xs v) i t ≡ swept (job size n most xs w) i t
  unfolding swept
  swept_same zero t h = refl
  swept_same (suc i) t h = rw (swept_same i t (omega arith)) (stepped_same i (swept (job size n most xs w) i t) h)

  pub end_same : (t : Table) (k : Bool) → end_cost (job size n most xs v) t k ≡ end_cost (job size n most xs w) t k
  unfolding end_cost
  end_same t true = rw s.above
  end_same t false = rw s.index

  pub planned-same : planned (job size n most xs v) ≡ planned (job size n most xs w)
  unfolding planned last_kind
  planned-same =
      rw (swept_same (n * 2) fresh (le_refl _), end_same (swept (job size n most xs w) (n * 2) fresh) true, end_same (swept (job size n most xs w) (n * 2) fresh) false)
      (ap (λ (x : Float). record { total = x; runs = runs_of size xs 0 false (trail (swept (job size n most xs w) (n * 2) fresh).pos (swept (job size n most xs w) (n * 2) fresh).st n n (lt (end_cost (job size n most xs w) (swept (job size n most xs w) (n * 2) fresh) true) (end_cost (job size n most xs w) (swept (job size n most xs w) (n * 2) fresh) false))) })
      (end_same (swept (job size n most xs w) (n * 2) fresh) _))
