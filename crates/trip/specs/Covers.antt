-- Runs that keep the run rules cover the scan once.
use Rattle.std.specs.Prelude.{Bool, true, false, List, [], ◌∷◌, ◌≡◌, refl, ℕ, ◌+◌, ◌*◌, ◌≤◌, ◌<◌}
use Rattle.std.proofs.Common.{⊎_elim, sym, ◌∙◌, arith, le-leb, leb-true}
use Rattle.std.proofs.lemmas.Bool.{lt-leb}
use Rattle.base.specs.Codes.{All}
use Rattle.base.specs.Pick.{either, true_false, lt_or_le}
use Rattle.model.specs.Whole.{max_index}
use Rattle.model.specs.declared.PaletteCu.{PaletteCu}
use Rattle.syntax.specs.KeepLaws.{keeps_le, may_not}
use Rattle.syntax.specs.ReplayLaws.{Alphabets}
use Rattle.syntax.specs.Runs.{Run, sent_of, may_copy, Keeps}
use Rattle.trip.specs.Demand.{holding, Apart, Covers}

-- ---- each place in one run

before : (size n scan : ℕ) (prev : Bool) (rs : List Run) (i : ℕ) → Keeps size n scan prev rs → i < scan → holding i rs ≡ 0
unfolding holding
before size n scan prev [] i k h = refl
before size n scan prev (r ∷ rs) i k h = rw (k.0.start, lt-leb scan i h) (omega (arith, before size n (scan + r.more + 1) r.above rs i k.1 (omega arith)))

within : (size n scan : ℕ) (prev : Bool) (rs : List Run) (i : ℕ) → Keeps size n scan prev rs → scan ≤ i → i < n → holding i rs ≡ 1
unfolding holding
within size n scan prev [] i k l h = absurd (omega arith)
within size n scan prev (r ∷ rs) i k l h =
    ⊎_elim
    (λ (o : i < scan + r.more + 1). rw (k.0.start, le-leb scan i l, le-leb i (scan + r.more) (omega arith)) (omega (arith, before size n (scan + r.more + 1) r.above rs i k.1 o)))
    (λ (o : scan + r.more + 1 ≤ i). rw (k.0.start, le-leb scan i l, lt-leb i (scan + r.more) (omega arith)) (omega (arith, within size n (scan + r.more + 1) r.above rs i k.1 o h)))
    (lt_or_le i (scan + r.more + 1))

after : (size n scan : ℕ) (prev : Bool) (rs : List Run) (i : ℕ) → Keeps size n scan prev rs → n ≤ i → holding i rs ≡ 0
unfolding holding
after size n scan prev [] i k h = refl
after size n scan prev (r ∷ rs) i k h =
    let o = keeps_le size n (scan + r.more + 1) r.above rs k.1 in
    rw (k.0.start, le-leb scan i (omega arith), lt-leb i (scan + r.more) (omega arith)) (omega (arith, after size n (scan + r.more + 1) r.above rs i k.1 h))

-- ---- where runs copy from above

not_first : (size scan : ℕ) (prev : Bool) → may_copy size scan prev ≡ true → size ≤ scan
not_first size scan true e = absurd (true_false (sym e))
not_first size scan false e = leb-true size scan e

rows : (size n scan : ℕ) (prev : Bool) (rs : List Run) → Keeps size n scan prev rs → All (λ r. r.above ≡ true → size ≤ r.start) rs
rows size n scan prev [] k = tt
rows size n scan prev (r ∷ rs) k = ((λ t. rw k.0.start (not_first size scan prev (k.0.copy t))), rows size n (scan + r.more + 1) r.above rs k.1)

aparts : (size n scan : ℕ) (prev : Bool) (rs : List Run) → Keeps size n scan prev rs → Apart rs
aparts size n scan prev [] k = tt
aparts size n scan prev (r ∷ []) k = tt
aparts size n scan prev (r ∷ s ∷ rs) k = (
  (λ t. either s.above (λ u. absurd (true_false (sym t ∙ may_not size (scan + r.more + 1) r.above (k.1.0.copy u)))) (λ u. u)),
  aparts size n (scan + r.more + 1) r.above (s ∷ rs) k.1,
)

-- ---- of a block

pub covers : (cu : PaletteCu) (rs : List Run) → Keeps cu.size (cu.size * cu.size) 0 false rs → Alphabets (max_index cu) 0 (sent_of rs) → Covers cu rs
covers cu rs k m = record {
  once = λ i h. within cu.size (cu.size * cu.size) 0 false rs i k (omega arith) h;
  past = λ i h. after cu.size (cu.size * cu.size) 0 false rs i k h;
  row = rows cu.size (cu.size * cu.size) 0 false rs k;
  apart = aparts cu.size (cu.size * cu.size) 0 false rs k;
  below = m.first refl;
}
