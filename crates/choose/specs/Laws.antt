-- The laws of the choice: sizes, flags, and what the palette starts with.
use Rattle.std.specs.Prelude.{List, [], ◌∷◌, ◌≡◌, refl, ℕ, suc, ◌+◌, ◌≤◌, ◌<◌, length, take, drop}
use Rattle.std.proofs.Common.{⊎_elim, ap, arith, lt-ltb, le-ltb, length-append, length-drop, length-take-le}
use Rattle.base.specs.Alls.{all_append, all_take, all_drop}
use Rattle.base.specs.Codes.{All}
use Rattle.base.specs.Pick.{lt_or_le}
use Rattle.h265.specs.Reuse.{trues, flagged}
use Rattle.reps.specs.Reps.{hit_of, reps}
use Rattle.reps.specs.Laws.{reps_le}
use Rattle.choose.specs.Choose.{without, taken, passed, chosen}

-- the choice, one entry on
pub chosen-hit : (tol e : ℕ) (es free : List ℕ) → hit_of tol e free < length free → chosen tol (e ∷ es) free ≡ taken e (chosen tol es (without (hit_of tol e free) free))
unfolding chosen
chosen-hit tol e es free h = rw (lt-ltb _ _ h)

pub chosen-miss : (tol e : ℕ) (es free : List ℕ) → length free ≤ hit_of tol e free → chosen tol (e ∷ es) free ≡ passed (chosen tol es free)
unfolding chosen
chosen-miss tol e es free h = rw (le-ltb _ _ h)

pub without-length : (r : ℕ) (l : List ℕ) → r < length l → length (without r l) + 1 ≡ length l
without-length r l h = omega (arith, length-append (take r l) (drop (suc r) l), length-take-le r l (omega arith), length-drop (suc r) l)

-- as many entries as representatives
pub palette_size : (tol : ℕ) (es free : List ℕ) → length (chosen tol es free).palette ≡ length free
unfolding chosen
palette_size tol [] free = refl
palette_size tol (e ∷ es) free =
    ⊎_elim
    (λ (h : hit_of tol e free < length free). rw (chosen-hit tol e es free h) (omega (arith, palette_size tol es (without (hit_of tol e free) free), without-length (hit_of tol e free) free h)))
    (λ (h : length free ≤ hit_of tol e free). rw (chosen-miss tol e es free h) (palette_size tol es free))
    (lt_or_le (hit_of tol e free) (length free))

-- a flag for each entry
pub flags_length : (tol : ℕ) (es free : List ℕ) → length (chosen tol es free).flags ≡ length es
unfolding chosen
flags_length tol [] free = refl
flags_length tol (e ∷ es) free =
    ⊎_elim (λ (h : hit_of tol e free < length free). rw (chosen-hit tol e es free h) (ap suc (flags_length tol es (without (hit_of tol e free) free))))
    (λ (h : length free ≤ hit_of tol e free). rw (chosen-miss tol e es free h) (ap suc (flags_length tol es free))) (lt_or_le (hit_of tol e free) (length free))

-- the palette starts with the entries that the flags mark, in order
pub starts : (tol : ℕ) (es free : List ℕ) → take (trues (chosen tol es free).flags) (chosen tol es free).palette ≡ flagged (chosen tol es free).flags es
unfolding chosen trues flagged
starts tol [] free = refl
starts tol (e ∷ es) free =
    ⊎_elim (λ (h : hit_of tol e free < length free). rw (chosen-hit tol e es free h) (ap (λ (z : List ℕ). e ∷ z) (starts tol es (without (hit_of tol e free) free))))
    (λ (h : length free ≤ hit_of tol e free). rw (chosen-miss tol e es free h) (starts tol es free)) (lt_or_le (hit_of tol e free) (length free))

-- no more flags on than representatives
pub trues_le : (tol : ℕ) (es free : List ℕ) → trues (chosen tol es free).flags ≤ length free
unfolding chosen trues
trues_le tol [] free = omega arith
trues_le tol (e ∷ es) free =
    ⊎_elim
    (λ (h : hit_of tol e free < length free). rw (chosen-hit tol e es free h) (omega (arith, trues_le tol es (without (hit_of tol e free) free), without-length (hit_of tol e free) free h)))
    (λ (h : length free ≤ hit_of tol e free). rw (chosen-miss tol e es free h) (trues_le tol es free))
    (lt_or_le (hit_of tol e free) (length free))

-- the entries that the flags mark and the rest make the palette
pub shares : (tol : ℕ) (es free : List ℕ) → trues (chosen tol es free).flags + length (drop (trues (chosen tol es free).flags) (chosen tol es free).palette) ≡ length (chosen tol es free).palette
shares tol es free = omega (arith, length-drop (trues (chosen tol es free).flags) (chosen tol es free).palette, trues_le tol es free, palette_size tol es free)

-- at most the limit
pub palette_le : (tol limit : ℕ) (es cs : List ℕ) (n : ℕ) → length (chosen tol es (reps tol limit cs n)).palette ≤ limit
palette_le tol limit es cs n = rw (palette_size tol es (reps tol limit cs n)) (reps_le tol limit cs n)

-- what holds of every predictor entry and of every representative holds of every entry
pub chosen-all : (Good : ℕ → Type 0) (tol : ℕ) (es free : List ℕ) → All Good es → All Good free → All Good (chosen tol es free).palette
unfolding chosen
chosen-all Good tol [] free a b = b
chosen-all Good tol (e ∷ es) free a b =
    let r = hit_of tol e free in
    ⊎_elim
    (λ (h : r < length free).
    rw (chosen-hit tol e es free h)
    (a.0, chosen-all Good tol es (without r free) a.1 (all_append Good (take r free) (drop (suc r) free) (all_take Good r free b) (all_drop Good (suc r) free b))))
    (λ (h : length free ≤ r). rw (chosen-miss tol e es free h) (chosen-all Good tol es free a.1 b))
    (lt_or_le r (length free))
