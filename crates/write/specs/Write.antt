-- What the writer of a block answers and leaves: document 01's refusals 2, 7, 8 and 9, or the definition's bins.
use Rattle.std.specs.Prelude.{Bool, true, false, List, [], ◌∷◌, ℕ, ◌*◌, ltb, leb, eqb, length, take}
use Rattle.std.proofs.lemmas.List.Edits.{sets}
use Rattle.base.specs.Pick.{pick}
use Rattle.base.specs.Tests.{every, refusal}
use Rattle.model.specs.declared.PaletteCu.{PaletteCu}
use Rattle.model.specs.Whole.{max_index, block_size_in, holds}
use Rattle.syntax.specs.Block.{block_bins}
use Rattle.syntax.specs.Records.{call_of, block_of}
use Rattle.syntax.specs.Runs.{Run}
use Rattle.syntax.specs.Test.{replays}
use Rattle.write.specs.Written.{Written}

-- the block's bins with a run list, under the palette limit 64
unfoldable pub bins_of : PaletteCu → List Run → List ℕ
bins_of cu rs = block_bins (call_of 64 [] cu) (block_of cu) rs

-- the runs replay to the block's indices under the run rules; there are at most 1024; with M = 0 they are ignored
unfoldable pub runs_hold : PaletteCu → List Run → ℕ → Bool
runs_hold cu runs count =
    pick (ltb 0 (max_index cu))
    (every (leb count 1024 ∷ replays cu.size (cu.size * cu.size) (max_index cu) (take (cu.size * cu.size) cu.indices) 0 false (take count runs) ∷ []))
    true

-- room: the length of the lent list
unfoldable pub write_refusal : PaletteCu → List Run → ℕ → ℕ → ℕ
write_refusal cu runs count room =
    refusal ((block_size_in cu, 2) ∷ (holds 64 cu, 7) ∷ (runs_hold cu runs count, 8) ∷ (leb (length (bins_of cu (take count runs))) room, 9) ∷ [])

unfoldable pub write_of : PaletteCu → List Run → ℕ → ℕ → Written
write_of cu runs count room = record {
  refusal = write_refusal cu runs count room;
  bins = pick (eqb (write_refusal cu runs count room) 0) (length (bins_of cu (take count runs))) 0;
}

-- the list as it was where there is a refusal
unfoldable pub list_after : PaletteCu → List Run → ℕ → List ℕ → List ℕ
list_after cu runs count l = pick (eqb (write_refusal cu runs count (length l)) 0) (sets l 0 (bins_of cu (take count runs))) l
