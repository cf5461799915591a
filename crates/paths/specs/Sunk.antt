-- Every back-pointer of the table goes down, whatever the prices are.
use Rattle.std.specs.Prelude.{◌≡◌, refl, Bool, List, [], ◌∷◌, Float, get_or, set, length, replicate}
use Rattle.std.proofs.Common.{ap, sym, ◌∙◌, le_refl, arith}
use Rattle.std.proofs.Math.Bool.{true, false}
use Prim.Native.Nat.{ℕ, zero, suc, ◌+◌, ◌*◌, ◌-◌, ◌/◌, ◌%◌, ◌≤◌, ◌<◌}
use Rattle.std.specs.Float.{nan}
use Rattle.std.specs.Float.Ieee.{lt}
use Rattle.base.specs.Pick.{pick}
use Rattle.paths.specs.Plan.{Job, Table, slot, place_of, kind_of, infinite, indexed, copied, relaxed, stepped, swept, fresh}
use Rattle.paths.specs.Edges.{Edge, edge_low, edge_high, cost_of, both_keep}
use Rattle.paths.specs.TableLaws.{from_place, Wide, relaxed_wide, relaxed-each}

-- ---- the fresh table

zeros : (n s : ℕ) → ◌≡◌ {A = ℕ} (get_or (replicate n 0) s 0) 0
zeros zero s = refl
zeros (suc n) zero = refl
zeros (suc n) (suc s) = zeros n s

pub fresh_wide : Wide fresh
fresh_wide = (refl, refl, refl)

-- ---- every back-pointer, of a slot that is reached or not, goes down

pub record Sunk (t : Table) : Type 0 where
  pub wide : Wide t
  pub lower : (q : ℕ) (k : Bool) → 0 < q → from_place t q k < q

pub fresh_sunk : Sunk fresh
fresh_sunk = record { wide = fresh_wide; lower = λ q k h. omega (arith, zeros 2050 (slot q k)) }

module _ (j : Job) (nh : j.n ≤ 1024) where
  sunk_one : (p : ℕ) (l : Bool) (c : Float) (t : Table) (q : ℕ) (k : Bool) → Sunk t → Edge j p l q k → Sunk (relaxed t (slot q k) (cost_of j p l c q k) p l)
  sunk_one p l c t q k s e =
      let qh : q ≤ 1024 = omega (arith, edge_high j p l q k e) in record {
        wide = relaxed_wide t q k _ p l s.wide qh;
        lower = relaxed-each t q k _ p l s.wide qh (λ q' k' c' p' l'. 0 < q' → p' < q') (λ h. edge_low j p l q k e) s.lower;
      }

  stepped_sunk : (s : ℕ) (t : Table) → s < j.n * 2 → Sunk t → Sunk (stepped j s t)
  unfolding stepped
  stepped_sunk s t h o = at (lt (get_or t.cost s nan) infinite)
    where
      at : (b : Bool) → Sunk (pick b (copied j (place_of s) (kind_of s) (get_or t.cost s nan) (indexed j (place_of s) (kind_of s) (get_or t.cost s nan) t)) t)
      at true = both_keep j (place_of s) (kind_of s) (get_or t.cost s nan) (omega arith) Sunk (sunk_one (place_of s) (kind_of s) (get_or t.cost s nan)) t o
      at false = o

  pub swept_sunk : (s : ℕ) (t : Table) → s ≤ j.n * 2 → Sunk t → Sunk (swept j s t)
  unfolding swept
  swept_sunk zero t h o = o
  swept_sunk (suc s) t h o = stepped_sunk s (swept j s t) (omega arith) (swept_sunk s t (omega arith) o)

  pub done_sunk : Sunk (swept j (j.n * 2) fresh)
  done_sunk = swept_sunk (j.n * 2) fresh (le_refl _) fresh_sunk
