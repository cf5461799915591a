-- An index run's reference, from the table of the cells above.
use Rattle.std.specs.Prelude.{◌≡◌, Bool, List, ℕ, ◌-◌, ◌<◌, eqb, get_or}
use Rattle.std.proofs.Common.{◌∙◌}
use Rattle.std.proofs.Math.Path.{sym}
use native.Mathlib.Omega.{arith}
use borrow.Author.Tests.{ne_eqb, eqb-false}
use Rattle.base.specs.Pick.{pick, either}
use Rattle.h265.specs.Scan.{above_at}
use Rattle.syntax.specs.Replay.{reference}
use Rattle.paths.specs.Cells.{draws_from, sent_from, draws, sent_for}
use Rattle.paths.specs.CellLaws.{reference-above, reference-before}

unfoldable pub reference_in : List ℕ → List ℕ → ℕ → Bool → ℕ
reference_in xs above p k = pick (eqb p 0) 0 (pick k (get_or above p 0) (get_or xs (p - 1) 0))

module _ (size : ℕ) (xs above : List ℕ) (p : ℕ) (k : Bool) (e : get_or above p 0 ≡ above_at size xs p) where
  reference-is : 0 < p → reference_in xs above p k ≡ reference size k xs p
  unfolding reference_in
  reference-is h =
      let o : p ≡ 0 → ⊥ = λ z. omega arith in
      rw (ne_eqb p 0 o) (either k (λ t. rw t (e ∙ sym (reference-above size xs p))) (λ t. rw t (sym (reference-before size xs p))))

  pub draws_in : draws_from p (get_or xs p 0) (reference_in xs above p k) ≡ draws size xs p k
  unfolding draws_from
  draws_in = either (eqb p 0) (λ t. rw t) (λ t. let o : p ≡ 0 → ⊥ = eqb-false p 0 t in rw (reference-is (omega arith)))

  pub sent_in_lem : sent_from p (get_or xs p 0) (reference_in xs above p k) ≡ sent_for size xs p k
  unfolding sent_from
  sent_in_lem = either (eqb p 0) (λ t. rw t) (λ t. let o : p ≡ 0 → ⊥ = eqb-false p 0 t in rw (reference-is (omega arith)))
