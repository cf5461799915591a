-- The tables of a model's sums give the model's prices, and the planner's slots one by one.
use Rattle.std.specs.Prelude.{◌≡◌, true, false, List, ℕ, ◌+◌, ◌/◌, ◌%◌, ◌≤◌, eqb, Float, get_or}
use Rattle.std.proofs.Math.Path.{refl}
use Rattle.std.proofs.Common.{add-one, arith}
use Rattle.std.specs.Float.{nan}
use Rattle.std.specs.Float.Ieee.{lt}
use Rattle.rates.specs.Rates.{share_rate}
use Rattle.rates.specs.declared.RateModel.{RateModel}
use Rattle.sums.specs.Sums.{Sums}
use Rattle.sums.specs.SumLaws.{run_from_lem}
use Rattle.paths.specs.Plan.{Price, price_of, job, Table, infinite, indexed, copied, stepped, swept}
use Rattle.paths.specs.Same.{Same}
pub use Rattle.starts.specs.Starts.{price_in}

-- the tables of a model's sums give the model's prices
pub prices_same : (m : RateModel) (most n : ℕ) (short full : List Float) (share : Float) → n ≤ 1024 → Sums m short full → share ≡ share_rate most
    → Same n (price_in short full m.run_type.bin0 m.run_type.bin1 share) (price_of m most)
prices_same m most n short full share h s e = record {
  index = refl;
  above = refl;
  share = e;
  run = λ longest above sent more o g. run_from_lem m short full longest above sent more s o (omega arith);
}

-- ---- the slots

module _ (size n most : ℕ) (xs : List ℕ) (v : Price) (s : ℕ) (t : Table) where
  pub step-yes : lt (get_or t.cost s nan) infinite ≡ true
      → copied (job size n most xs v) (s / 2) (eqb (s % 2) 1) (get_or t.cost s nan) (indexed (job size n most xs v) (s / 2) (eqb (s % 2) 1) (get_or t.cost s nan) t) ≡ stepped (job size n most xs v) s t
  unfolding stepped
  step-yes e = rw e

  pub step_no : lt (get_or t.cost s nan) infinite ≡ false → t ≡ stepped (job size n most xs v) s t
  unfolding stepped
  step_no e = rw e

  pub swept_none : t ≡ swept (job size n most xs v) 0 t
  unfolding swept
  swept_none = refl

  pub swept-more : (u : Table) → u ≡ swept (job size n most xs v) s t → stepped (job size n most xs v) s u ≡ swept (job size n most xs v) (s + 1) t
  unfolding swept
  swept-more u e = rw (add-one, e)
