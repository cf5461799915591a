-- The prices that the tables of sums stand for, and the runs from one place by them.
use Rattle.std.specs.Prelude.{◌≡◌, Bool, true, false, List, [], ◌∷◌, ℕ, ◌+◌, ◌≤◌, ◌<◌, eqb, ltb, Float}
use Rattle.std.proofs.Common.{◌∙◌, arith}
use Rattle.std.specs.Float.{binary32}
use Rattle.std.specs.Float.Ieee.{add}
use borrow.Author.Tests.{le-leb, lt-leb}
use Rattle.base.specs.Pick.{pick, either}
use Rattle.base.specs.Tests.{every}
use Rattle.base.specs.Upto.{number}
use Rattle.rates.specs.Rates.{index_rate}
use Rattle.sums.specs.Sums.{row_of, run_from}
use Rattle.syntax.specs.Runs.{may_copy}
use Rattle.paths.specs.Cells.{above_length, draws, sent_for}
use Rattle.paths.specs.CellLaws.{above_zero, above-some}
use Rattle.paths.specs.Plan.{Price, Job, job, Table, slot, flag_rate, alphabet_at, head_rate, draw_cost, copy_cost, relaxed, indexed, copied}
use Rattle.relax.specs.Jumps.{length_from, copy_from, drawn}
use Rattle.relax.specs.JumpLaws.{Tables, drawn_is}
use Rattle.starts.specs.declared.Terms.{Terms}

abbrev pub price_in : List Float → List Float → Float → Float → Float → Price
price_in short full r0 r1 share = record { index = r0; above = r1; share = share; run = λ longest above sent more. run_from short full (row_of above sent) longest more }

abbrev pub terms_of : ℕ → ℕ → ℕ → Float → Float → Float → Terms
terms_of size n most r0 r1 share = record { size = size; n = n; most = most; r0 = r0; r1 = r1; share = share }

abbrev pub job_in : Terms → List ℕ → List Float → List Float → Job
job_in t xs short full = job t.size t.n t.most xs (price_in short full t.r0 t.r1 t.share)

unfoldable pub head_from : ℕ → ℕ → ℕ → Float → Float → ℕ → Bool → Float → ℕ → Float
head_from size n most r0 share p k c sent =
    add binary32 (add binary32 (add binary32 c (pick (every (may_copy size p k ∷ ltb (p + 1) n ∷ [])) r0 (number 0))) (index_rate (alphabet_at most p) sent)) share

-- ---- the runs from p

module _ (size n most : ℕ) (xs above il al ss : List ℕ) (short full : List Float) (r0 r1 share : Float) (p : ℕ) (k : Bool) (c : Float) (t : Table) where
  pub index-yes : Tables size n xs above il al ss → p < n → draws size xs p k ≡ true
      → drawn il al ss (λ q. add binary32 (head_from size n most r0 share p k c (sent_for size xs p k)) (length_from short full (row_of false (sent_for size xs p k)) n p q)) p k t
      ≡ indexed (job size n most xs (price_in short full r0 r1 share)) p k c t
  unfolding indexed draw_cost head_rate flag_rate head_from length_from
  index-yes a h d = drawn_is size n xs above il al ss a p h _ k t ∙ rw d

module _ (size n most : ℕ) (xs : List ℕ) (short full : List Float) (r0 r1 share : Float) (p : ℕ) (k : Bool) (c : Float) (t : Table) where
  pub index_no : draws size xs p k ≡ false → t ≡ indexed (job size n most xs (price_in short full r0 r1 share)) p k c t
  unfolding indexed
  index_no d = rw d

  pub copy_late : k ≡ true → t ≡ copied (job size n most xs (price_in short full r0 r1 share)) p k c t
  unfolding copied
  copy_late e = rw e

  pub copy_low : k ≡ false → p < size → t ≡ copied (job size n most xs (price_in short full r0 r1 share)) p k c t
  unfolding copied
  copy_low e h = rw (e, lt-leb size p h)

  pub copy_none : k ≡ false → size ≤ p → p < n → above_length size n xs p ≡ 0 → t ≡ copied (job size n most xs (price_in short full r0 r1 share)) p k c t
  unfolding copied
  copy_none e h g z = rw (e, le-leb size p h, above_zero size n xs p g z)

  pub copy_yes : k ≡ false → size ≤ p → p < n → (above_length size n xs p ≡ 0 → ⊥)
      → relaxed t (slot (p + above_length size n xs p) true) (add binary32 c (copy_from short full r1 n p (p + above_length size n xs p))) p k ≡ copied (job size n most xs (price_in short full r0 r1 share)) p k c t
  unfolding copied copy_cost copy_from row_of
  copy_yes e h g z = rw (e, le-leb size p h, above-some size n xs p g z)

pub alphabet_in : (most p : ℕ) → 1 ≤ most → most ≤ 64 → (1 ≤ alphabet_at most p) × (alphabet_at most p ≤ 1024)
alphabet_in most p h g = either (eqb p 0) (λ e. rw e (omega arith, omega arith)) (λ e. rw e (omega arith, omega arith))
