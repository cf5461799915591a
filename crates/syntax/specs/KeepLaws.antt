-- What a run list that keeps the rules gives: the facts by which the inferred flags and lengths are the right ones.
use Rattle.std.specs.Prelude.{◌≡◌, refl, Bool, true, false, List, [], ◌∷◌, ◌++◌, ℕ, zero, suc, ◌+◌, ◌*◌, ◌-◌, ◌≤◌, ◌<◌, ltb, leb, eqb, length}
use Rattle.std.proofs.Common.{ap, sym, ◌∙◌, arith, lt-ltb, le-ltb, ltb-true, ltb-false, eqb-true, eq-eqb, ne_eqb, leb-true, leb-false}
use Rattle.std.proofs.lemmas.Bool.{eqb-false}
use Rattle.base.specs.Pick.{pick}
use Rattle.h265.specs.Strings.{bit}
use Rattle.syntax.specs.Runs.{Run, sent_of, final_of, may_copy, Rule, Keeps, asked, inferred, same, is_last}

pub true_false : true ≡ false → ⊥
true_false e = let z : ◌≡◌ {A = ℕ} 1 0 = ap (λ (b : Bool). pick b 1 0) e in omega arith

pub sent_above : (r : Run) (rs : List Run) → r.above ≡ true → sent_of (r ∷ rs) ≡ sent_of rs
unfolding sent_of
sent_above r rs e = rw e

pub sent_index : (r : Run) (rs : List Run) → r.above ≡ false → sent_of (r ∷ rs) ≡ r.sent ∷ sent_of rs
unfolding sent_of
sent_index r rs e = rw e

pub final_next : (prev : Bool) (r : Run) (rs : List Run) → final_of prev (r ∷ rs) ≡ final_of r.above rs
unfolding final_of
final_next prev r rs = refl

pub may_not : (size scan : ℕ) (prev : Bool) → may_copy size scan prev ≡ true → prev ≡ false
may_not size scan true e = absurd (true_false (sym e))
may_not size scan false e = refl

pub keeps_le : (size n scan : ℕ) (prev : Bool) (rs : List Run) → Keeps size n scan prev rs → scan ≤ n
keeps_le size n scan prev [] k = omega arith
keeps_le size n scan prev (r ∷ rs) k = omega (arith, keeps_le size n (scan + r.more + 1) r.above rs k.1)

-- runs are no more than the cells
pub keeps-count : (size n scan : ℕ) (prev : Bool) (rs : List Run) → Keeps size n scan prev rs → scan + length rs ≤ n
keeps-count size n scan prev [] k = omega arith
keeps-count size n scan prev (r ∷ rs) k = omega (arith, keeps-count size n (scan + r.more + 1) r.above rs k.1)

-- a run list without index runs: each copies from above
no_index : (r : Run) (rs : List Run) → length (sent_of (r ∷ rs)) ≡ 0 → r.above ≡ true
no_index r rs h = go r.above refl
  where
    go : (t : Bool) → r.above ≡ t → r.above ≡ true
    go true e = e
    go false e = absurd (omega (arith, ap length (sent_index r rs e)))

all_above : (rs : List Run) → length (sent_of rs) ≡ 0 → final_of true rs ≡ true
unfolding final_of
all_above [] h = refl
all_above (r ∷ rs) h =
    let a : r.above ≡ true = no_index r rs h in
    let i : length (sent_of rs) ≡ 0 = ap length (sym (sent_above r rs a)) ∙ h in
    rw a (all_above rs i)

sent_most : (r : Run) (rs : List Run) → length (sent_of (r ∷ rs)) ≤ length (sent_of rs) + 1
sent_most r rs = go r.above refl
  where
    go : (t : Bool) → r.above ≡ t → length (sent_of (r ∷ rs)) ≤ length (sent_of rs) + 1
    go true e = omega (arith, ap length (sent_above r rs e))
    go false e = omega (arith, ap length (sent_index r rs e))

-- each run takes a cell: the index runs still to come, and a last copy-above run, have their room
pub keeps-room : (size n scan : ℕ) (prev : Bool) (r : Run) (rs : List Run) → Keeps size n scan prev (r ∷ rs) → scan + length (sent_of (r ∷ rs)) + bit (final_of prev (r ∷ rs)) ≤ n
unfolding final_of sent_of
keeps-room size n scan prev r [] k = go r.above refl
  where
    go : (t : Bool) → r.above ≡ t → scan + length (sent_of (r ∷ [])) + bit r.above ≤ n
    go true e = rw e (omega (arith, k.1, ap length (sent_above r [] e)))
    go false e = rw e (omega (arith, k.1, ap length (sent_index r [] e)))
keeps-room size n scan prev r (s ∷ rs) k =
    omega (arith, keeps-room size n (scan + r.more + 1) r.above s rs k.1, sent_most r (s ∷ rs))

-- nothing is left and the kind is the last run's: then this is the last run
pub keeps-last : (size n scan : ℕ) (prev : Bool) (r : Run) (rs : List Run) → Keeps size n scan prev (r ∷ rs) → length (sent_of rs) ≡ 0 → r.above ≡ final_of r.above rs → scan + 1 + r.more ≡ n
unfolding final_of
keeps-last size n scan prev r [] k z f = omega (arith, k.1)
keeps-last size n scan prev r (s ∷ rs) k z f =
    let a : s.above ≡ true = no_index s rs z in
    let b : r.above ≡ false = may_not size (scan + r.more + 1) r.above (k.1.0.copy a) in
    let i : length (sent_of rs) ≡ 0 = ap length (sym (sent_above s rs a)) ∙ z in
    let g : final_of s.above rs ≡ true = rw a (all_above rs i) in
    absurd (true_false (sym g ∙ (sym f ∙ b)))

-- index runs after this run need room
pub room_after : (size n scan : ℕ) (prev : Bool) (r : Run) (rs : List Run) → Keeps size n scan prev (r ∷ rs) → 0 < length (sent_of rs) → scan + 1 < n
unfolding sent_of
room_after size n scan prev r [] k h = absurd (omega arith)
room_after size n scan prev r (s ∷ rs) k h = omega (arith, keeps-room size n (scan + r.more + 1) r.above s rs k.1)

-- the flag that is not sent is the one inferred
pub keeps_kind : (size n scan : ℕ) (prev : Bool) (r : Run) (rs : List Run) → Keeps size n scan prev (r ∷ rs) → asked size n scan prev (length (sent_of (r ∷ rs))) ≡ false → r.above ≡ inferred size scan prev (length (sent_of (r ∷ rs)))
unfolding asked inferred
keeps_kind size n scan prev r rs k a = go r.above (may_copy size scan prev) (ltb 0 (length (sent_of (r ∷ rs)))) refl refl refl a
  where
    go : (t m z : Bool) → r.above ≡ t → may_copy size scan prev ≡ m → ltb 0 (length (sent_of (r ∷ rs))) ≡ z → pick m (pick z (ltb (scan + 1) n) false) false ≡ false → r.above ≡ pick m (eqb (length (sent_of (r ∷ rs))) 0) false
    go true false z e c i a = absurd (true_false (sym (k.0.copy e) ∙ c))
    go false false z e c i a = e
    go t true false e c i a =
        let y : length (sent_of (r ∷ rs)) ≡ 0 = omega (arith, ltb-false 0 (length (sent_of (r ∷ rs))) i) in
        rw (eq-eqb (length (sent_of (r ∷ rs))) 0 y) (no_index r rs y)
    go true true true e c i a =
        let y : 0 < length (sent_of rs) = rw (sent_above r rs e) at (ltb-true 0 (length (sent_of (r ∷ rs))) i) in
        absurd (omega (arith, ltb-false (scan + 1) n a, room_after size n scan prev r rs k y))
    go false true true e c i a =
        let y : length (sent_of (r ∷ rs)) ≡ 0 → ⊥ = λ w. omega (arith, ltb-true 0 (length (sent_of (r ∷ rs))) i) in
        rw (ne_eqb (length (sent_of (r ∷ rs))) 0 y) e
