-- What the laws of the run stage ask of runs.
use Rattle.std.specs.Prelude.{◌≡◌, Bool, ℕ, zero, suc, ◌+◌, ◌*◌, ◌-◌, ◌≤◌, ◌<◌, leb, eqb, length}
use Rattle.std.proofs.Math.Path.{refl, sym}
use Rattle.std.proofs.Common.{ap, ◌∙◌, arith}
use Rattle.std.proofs.Math.Bool.{true, false}
use mathlib.Core.List.{List, [], ◌∷◌, ◌++◌}
use Rattle.std.proofs.Math.Dec.{ltb}
use borrow.Author.Tests.{lt-ltb, le-ltb, ltb-true, ltb-false, eqb-true, eqb-false, eq-eqb, ne_eqb, leb-true, leb-false, le-leb, lt-leb}
use Rattle.base.specs.Stands.{Stands}
use Rattle.syntax.specs.Runs.{Run, sent_of, final_of, Keeps, is_last, reserved, runs_bins}

-- ---- the run's length

pub record MoreOk (n scan left : ℕ) (fin above : Bool) (more : ℕ) : Type 0 where
  pub last : is_last left fin above ≡ true → scan + 1 + more ≡ n
  pub other : is_last left fin above ≡ false → reserved scan left fin + more ≤ n

-- the state between two runs: where cells are left, none of the indices is left only before a last copy-above run; where none is, all are used
pub record State (n : ℕ) (fin : Bool) (scan : ℕ) (prev : Bool) (left : ℕ) : Type 0 where
  pub inside : scan ≤ n
  pub going : scan < n → left ≡ 0 → fin ≡ true
  pub done : scan ≡ n → (left ≡ 0) × (prev ≡ fin)

pub record ReadRuns (size n : ℕ) (fin : Bool) (scan : ℕ) (prev : Bool) (is l : List ℕ) (p q : ℕ) (rs : List Run) : Type 0 where
  pub stands : Stands l p (runs_bins size n fin scan prev rs) q
  pub sent : sent_of rs ≡ is
  pub final : final_of prev rs ≡ fin
  pub keeps : Keeps size n scan prev rs
