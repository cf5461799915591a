-- An answer from what the entry point gave: a block, or a refusal.
use Rattle.std.specs.Prelude.{◌≡◌, refl, List, ℕ, ◌+◌, ◌*◌}
use Rattle.std.proofs.Common.{ap, sym, ◌∙◌, ne_eqb}
use Rattle.std.proofs.lemmas.List.Edits.{sets}
use Rattle.h265.specs.Strings.{bit}
use Rattle.flat.specs.Flat.{flat_block}
use Rattle.exports_smooth.specs.Calls.{smooth_laid}
use Rattle.smoothblock.specs.Block.{Smoothed}

module _ (done : Smoothed) (list : List ℕ) (r : ℕ) where
  pub smooth_done : (left : List ℕ) → done.refusal ≡ 0 → r ≡ 2 * 0 + bit done.changed → left ≡ sets list 0 (flat_block done.cu) → (r, left) ≡ smooth_laid done list
  smooth_done left h e l = rw (e, l, h)

  pub smooth_refused : (done.refusal ≡ 0 → ⊥) → r ≡ 2 * done.refusal + bit done.changed → (r, list) ≡ smooth_laid done list
  smooth_refused h e = rw (e, ne_eqb done.refusal 0 h)
