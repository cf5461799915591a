-- The table's slots, and what one offer does to them.
use Rattle.std.specs.Prelude.{◌≡◌, refl, Bool, true, false, List, ◌⊎◌, ℕ, zero, suc, ◌+◌, ◌*◌, ◌/◌, ◌%◌, ◌≤◌, ◌<◌, eqb, Float, get_or, set, length}
use Rattle.std.proofs.Common.{ap, sym, ◌∙◌, inl, inr, ⊎_elim, arith, length-set, get_or-set_same, get_or-set_other, eq-eqb, ne_eqb, eqb-true}
use Rattle.std.specs.Float.{nan}
use Rattle.std.specs.Float.Ieee.{lt}
use Rattle.std.proofs.lemmas.Bool.{eqb-false}
use Rattle.base.specs.Pick.{pick, either, true_false}
use Rattle.base.specs.Upto.{Upto, below-any, below_infinity}
use Rattle.paths.specs.Plan.{Table, tab, slot, place_of, kind_of, infinite, relaxed}

abbrev pub cost_at : Table → ℕ → Bool → Float
cost_at t q k = get_or t.cost (slot q k) nan

abbrev pub from_place : Table → ℕ → Bool → ℕ
from_place t q k = get_or t.pos (slot q k) 0

abbrev pub from_kind : Table → ℕ → Bool → Bool
from_kind t q k = get_or t.st (slot q k) false

-- some path ends at place q with a run of kind k
abbrev pub Reached : Table → ℕ → Bool → Type 0
Reached t q k = lt (cost_at t q k) infinite ≡ true

abbrev pub Wide : Table → Type 0
Wide t = (length t.cost ≡ 2050) × (length t.pos ≡ 2050) × (length t.st ≡ 2050)

-- ---- slots

pub slot_lt : (q : ℕ) (k : Bool) → q ≤ 1024 → slot q k < 2050
slot_lt q true h = omega arith
slot_lt q false h = omega arith

pub slot-low : (q : ℕ) (k : Bool) → q * 2 ≤ slot q k
slot-low q true = omega arith
slot-low q false = omega arith

pub slot-high : (q : ℕ) (k : Bool) → slot q k < q * 2 + 2
slot-high q true = omega arith
slot-high q false = omega arith

pub slot_of : (s : ℕ) → slot (place_of s) (kind_of s) ≡ s
slot_of s =
    either (eqb (s % 2) 1)
    (λ t. rw t (omega (arith, eqb-true (s % 2) 1 t)))
    (λ t. let d : s % 2 ≡ 1 → ⊥ = eqb-false (s % 2) 1 t in let e : s % 2 ≡ 0 = even d in rw t (omega arith))
  where
    even : (s % 2 ≡ 1 → ⊥) → s % 2 ≡ 0
    even d = omega arith

pub place_slot : (q : ℕ) (k : Bool) → place_of (slot q k) ≡ q
place_slot q true = omega arith
place_slot q false = omega arith

pub kind_slot : (q : ℕ) (k : Bool) → kind_of (slot q k) ≡ k
kind_slot q true = let e : (q * 2 + 1) % 2 ≡ 1 = omega arith in eq-eqb ((q * 2 + 1) % 2) 1 e
kind_slot q false = let d : q * 2 % 2 ≡ 1 → ⊥ = λ e. omega arith in ne_eqb (q * 2 % 2) 1 d

pub slot_cases : (q : ℕ) (k : Bool) (q' : ℕ) (k' : Bool) → ((q' ≡ q) × (k' ≡ k)) ⊎ (slot q' k' ≡ slot q k → ⊥)
slot_cases q k q' k' =
    either (eqb (slot q' k') (slot q k))
    (λ t.
    let e : slot q' k' ≡ slot q k = eqb-true (slot q' k') (slot q k) t in
    inl (sym (place_slot q' k') ∙ rw e (place_slot q k), sym (kind_slot q' k') ∙ rw e (kind_slot q k)))
    (λ t. inr (eqb-false (slot q' k') (slot q k) t))

-- ---- one offer

-- the table after a store
abbrev stored : Table → ℕ → Bool → Float → ℕ → Bool → Table
stored t q k c p l = tab (set t.cost (slot q k) c) (set t.pos (slot q k) p) (set t.st (slot q k) l)

-- either nothing changes, or the offer is stored
pub relaxed_cases : {C : Type 0} (t : Table) (q : ℕ) (k : Bool) (c : Float) (p : ℕ) (l : Bool)
    → (lt c (cost_at t q k) ≡ true → relaxed t (slot q k) c p l ≡ stored t q k c p l → C) → (lt c (cost_at t q k) ≡ false → relaxed t (slot q k) c p l ≡ t → C) → C
unfolding relaxed
relaxed_cases t q k c p l a b = either (lt c (cost_at t q k)) (λ e. a e (rw e)) (λ e. b e (rw e))

module _ (t : Table) (q : ℕ) (k : Bool) (c : Float) (p : ℕ) (l : Bool) (w : Wide t) (qh : q ≤ 1024) where
  at_cost : cost_at (stored t q k c p l) q k ≡ c
  at_cost = get_or-set_same t.cost (slot q k) c nan (omega (arith, slot_lt q k qh, w.0))

  at_place : from_place (stored t q k c p l) q k ≡ p
  at_place = get_or-set_same t.pos (slot q k) p 0 (omega (arith, slot_lt q k qh, w.1))

  at_kind : from_kind (stored t q k c p l) q k ≡ l
  at_kind = get_or-set_same t.st (slot q k) l false (omega (arith, slot_lt q k qh, w.2))

  pub relaxed_wide : Wide (relaxed t (slot q k) c p l)
  relaxed_wide =
      relaxed_cases t q k c p l
      (λ e f. rw f (simp length-set w.0, simp length-set w.1, simp length-set w.2))
      (λ e f. rw f w)

  -- a slot that is reached stays so
  pub relaxed-still : (q' : ℕ) (k' : Bool) → Reached t q' k' → Reached (relaxed t (slot q k) c p l) q' k'
  relaxed-still q' k' r =
      relaxed_cases t q k c p l
      (λ e f. rw f (⊎_elim
      (λ s. rw (s.0, s.1, at_cost) (below-any c (cost_at t q k) e))
      (λ s. rw (get_or-set_other t.cost (slot q k) (slot q' k') c nan s) r)
      (slot_cases q k q' k')))
      (λ e f. rw f r)

  -- an offer below the infinity reaches its slot, where no NaN stood there
  pub relaxed_reaches : lt c infinite ≡ true → (cost_at t q k ≡ infinite) ⊎ Reached t q k → Reached (relaxed t (slot q k) c p l) q k
  relaxed_reaches f had =
      relaxed_cases t q k c p l
      (λ e g. rw (g, at_cost) f)
      (λ e g. rw g (⊎_elim (λ z. absurd (true_false (sym f ∙ ap (lt c) (sym z) ∙ e))) (λ r. r) had))

  -- every other slot is as it was
  pub relaxed-other : (q' : ℕ) (k' : Bool) → (slot q' k' ≡ slot q k → ⊥) → cost_at (relaxed t (slot q k) c p l) q' k' ≡ cost_at t q' k'
  relaxed-other q' k' s =
      relaxed_cases t q k c p l
      (λ e f. rw (f, get_or-set_other t.cost (slot q k) (slot q' k') c nan s))
      (λ e f. rw f)

  -- what is true of the offer and of all slots before is true of all slots after
  pub relaxed-each : (P : ℕ → Bool → Float → ℕ → Bool → Type 0) → P q k c p l → ((q' : ℕ) (k' : Bool) → P q' k' (cost_at t q' k') (from_place t q' k') (from_kind t q' k'))
      → (q' : ℕ) (k' : Bool) → P q' k' (cost_at (relaxed t (slot q k) c p l) q' k') (from_place (relaxed t (slot q k) c p l) q' k') (from_kind (relaxed t (slot q k) c p l) q' k')
  relaxed-each P new old q' k' =
      relaxed_cases t q k c p l
      (λ e f. rw f (⊎_elim
      (λ s. rw (s.0, s.1, at_cost, at_place, at_kind) new)
      (λ s. rw (get_or-set_other t.cost (slot q k) (slot q' k') c nan s, get_or-set_other t.pos (slot q k) (slot q' k') p 0 s, get_or-set_other t.st (slot q k) (slot q' k') l false s) (old q' k'))
      (slot_cases q k q' k')))
      (λ e f. rw f (old q' k'))
