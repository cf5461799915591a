-- What the functions want of the definitions.
use Rattle.std.specs.Prelude.{◌≡◌, refl, true, List, ℕ, ◌+◌, ◌*◌, ◌≤◌, ◌<◌, Float, get_or, length}
use Rattle.std.proofs.Common.{ap, ◌∙◌, le_refl, arith}
use Rattle.std.proofs.Math.Bool.{Bool, false}
use Rattle.std.specs.Float.{binary32}
use Rattle.std.specs.Float.Ieee.{lt, of_bits}
use Rattle.base.specs.Cells.{laid, laid_in}
use Rattle.base.specs.Pick.{either}
use Rattle.h265.specs.Scan.{above_at}
use Rattle.paths.specs.Cells.{index_length, above_length}
use Rattle.paths.specs.Stretch.{next_stretch}
use Rattle.paths.specs.Plan.{Price, Job, job, Table, tab, infinite, swept, fresh, trail, end_cost, last_kind, planned}
use Rattle.paths.specs.Sunk.{done_sunk}
use Rattle.relax.specs.JumpLaws.{Tables}
use Rattle.walk.specs.Points.{Falls}
use Rattle.walk.specs.PointLaws.{trail_rising, runs_are}
use Rattle.cheapest.specs.Chart.{Charted}

-- the code's infinity
pub infinity_is : of_bits binary32 0x7f80_0000 ≡ infinite
unfolding of_bits
infinity_is = refl

-- ---- the table

module _ (j : Job) (nh : j.n ≤ 1024) (cost : List Float) (pos : List ℕ) (st : List Bool) (e : tab cost pos st ≡ swept j (j.n * 2) fresh) where
  search_falls : Falls pos
  search_falls = record { lower = λ q k h. rw (ap (λ (t : Table). t.pos) e) ((done_sunk j nh).lower q k h) }

  pub charted : (above : List ℕ) → ((i : ℕ) → i < j.n → get_or above i 0 ≡ above_at j.size j.xs i) → Charted j above pos st (end_cost j (tab cost pos st) false) (end_cost j (tab cost pos st) true)
  unfolding planned last_kind
  charted above w =
      let k : Bool = lt (end_cost j (tab cost pos st) true) (end_cost j (tab cost pos st) false) in
      let r = trail_rising pos st search_falls j.n j.n (lt (end_cost j (tab cost pos st) true) (end_cost j (tab cost pos st) false)) (le_refl _) nh in
      record {
        falls = search_falls;
        path =
            rw (runs_are j.size j.n j.xs above w 0 false (trail pos st j.n j.n (lt (end_cost j (tab cost pos st) true) (end_cost j (tab cost pos st) false))) r.0 r.1, ← e)
            (either (lt (end_cost j (tab cost pos st) true) (end_cost j (tab cost pos st) false)) (λ t. rw t) (λ t. rw t));
      }

-- prices that agree give the same path
pub charted-same : (size n most : ℕ) (xs : List ℕ) (v w : Price) (above pos : List ℕ) (st : List Bool) (e0 e1 : Float) → planned (job size n most xs v) ≡ planned (job size n most xs w)
    → Charted (job size n most xs v) above pos st e0 e1 → Charted (job size n most xs w) above pos st e0 e1
charted-same size n most xs v w above pos st e0 e1 e c = record { falls = c.falls; path = c.path ∙ e }

-- ---- the tables of the cells

pub each_laid : (f : ℕ → ℕ) (l out : List ℕ) (a n : ℕ) → out ≡ laid f l a n → a + n ≤ length l → (i : ℕ) → a ≤ i → i < a + n → get_or out i 0 ≡ f i
each_laid f l out a n e h i b c = rw e (laid_in f l a n i 0 b c h)

pub tables_of : (size n : ℕ) (xs above il al ss above₀ il₀ al₀ ss₀ : List ℕ) → n ≤ 1024 → length above₀ ≡ 1024 → length il₀ ≡ 1026 → length al₀ ≡ 1026 → length ss₀ ≡ 1026
    → above ≡ laid (above_at size xs) above₀ 0 n → il ≡ laid (index_length n xs) il₀ 0 n → al ≡ laid (above_length size n xs) al₀ 0 (n + 1) → ss ≡ laid (next_stretch size n xs) ss₀ 1 n
    → Tables size n xs above il al ss
tables_of size n xs above il al ss above₀ il₀ al₀ ss₀ h a b c d ea eb ec ed = record {
  above_is = λ i l. each_laid (above_at size xs) above₀ above 0 n ea (omega arith) i (omega arith) (omega arith);
  il_is = λ i l. each_laid (index_length n xs) il₀ il 0 n eb (omega arith) i (omega arith) (omega arith);
  al_is = λ i l. each_laid (above_length size n xs) al₀ al 0 (n + 1) ec (omega arith) i (omega arith) (omega arith);
  ss_is = λ i k l. each_laid (next_stretch size n xs) ss₀ ss 1 n ed (omega arith) i k (omega arith);
}
