-- Where a level is sent, in the code's numbers.
use Rattle.std.specs.Prelude.{Bool, true, false, [], ℕ, eqb}
use Rattle.base.specs.Pick.{pick}
use Rattle.syntax.specs.Block.{Call, chroma_due}

abbrev pub lent : ℕ → ℕ → Call
lent format size = record { size = size; format = format; luma = 0; chroma = 0; lossless = false; limit = 0; predictor = [] }

-- whether component k has a level at cell i
unfoldable pub due_at : ℕ → ℕ → Bool → ℕ → ℕ → Bool
due_at format size turned k i = pick (eqb k 0) true (chroma_due (lent format size) turned i)
