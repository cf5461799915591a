-- What the exported call answers and leaves in the memory lent to it: the entry point's answer over the records that the lists of numbers are.
use Rattle.std.specs.Prelude.{List, ℕ}
use Rattle.std.proofs.lemmas.List.Edits.{sets}
use Rattle.calls.specs.Calls.{answered}
use Rattle.flat.specs.Flat.{block_of, predictor_of, flat_predictor}
use Rattle.predictor.specs.Update.{Updated, update_of}

abbrev pub update_laid : Updated → List ℕ → ℕ × List ℕ
update_laid done list = answered done.refusal list (sets list 0 (flat_predictor done.predictor))

unfoldable pub update_out : List ℕ → List ℕ → ℕ → ℕ × List ℕ
update_out predictor block limit = update_laid (update_of (predictor_of predictor) (block_of block) limit) predictor
