-- Every refusal of the reader has a number from 1 on.
use Rattle.std.specs.Prelude.{◌≡◌, Bool, List, ℕ, ◌≤◌, eqb}
use Rattle.std.proofs.Common.{arith}
use borrow.Author.Tests.{eqb-false}
use Rattle.base.specs.Answer.{Answer, Value, Refused}
use Rattle.base.specs.Pick.{either}
use Rattle.h265.specs.Places.{Fair}
use Rattle.model.specs.declared.PalettePredictor.{PalettePredictor}
use Rattle.syntax.specs.Block.{read_block}
use Rattle.syntax.specs.BlockPlaces.{fair_block}
use Rattle.read.specs.Reading.{read_refusal, call_with, read_answer}

abbrev pub Named : {A : Type 0} → Answer A → Type 0
Named (Value a q) = Unit {0}
Named (Refused k q) = 1 ≤ k

fair_named : {A : Type 0} (l : List ℕ) (g : Answer A) → Fair l g → Named g
fair_named l (Value a q) h = tt
fair_named l (Refused k q) h = omega (arith, h.3)

module _ (l : List ℕ) where
  pub read_named : (size format luma chroma : ℕ) (lossless : Bool) (p : PalettePredictor) (room : ℕ) → Named (read_answer size format luma chroma lossless p room l)
  unfolding read_answer
  read_named size format luma chroma lossless p room =
      either (eqb (read_refusal size format luma chroma p room) 0)
      (λ t. rw t (fair_named l (read_block (call_with size format luma chroma lossless p) l 0) (fair_block l (call_with size format luma chroma lossless p) 0 (omega arith))))
      (λ t. let o : read_refusal size format luma chroma p room ≡ 0 → ⊥ = eqb-false _ 0 t in rw t (omega arith))
