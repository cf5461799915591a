-- An answer from what the entry point gave: a refusal, or none.
use Rattle.std.specs.Prelude.{◌≡◌, refl, List, ℕ}
use Rattle.std.proofs.Common.{ap, sym, ◌∙◌, ne_eqb}
use Rattle.calls.specs.Calls.{answered}

module _ {A : Type 0} (number : ℕ) (before after : A) where
  pub answered-refused : (number ≡ 0 → ⊥) → (number, before) ≡ answered number before after
  answered-refused h = rw (ne_eqb number 0 h)

  pub answered-done : (left : A) → number ≡ 0 → left ≡ after → (0, left) ≡ answered number before after
  answered-done left h e = rw (h, e)
