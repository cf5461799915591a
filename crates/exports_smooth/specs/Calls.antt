-- What the exported smoothing answers and leaves in the block lent to it: the entry point's answer over the records that the lists of numbers are.
use Rattle.std.specs.Prelude.{List, ℕ, ◌+◌, ◌*◌, eqb, Float, ℤ}
use Rattle.std.proofs.lemmas.List.Edits.{sets}
use Rattle.base.specs.Pick.{pick}
use Rattle.h265.specs.Strings.{bit}
use Rattle.flat.specs.Flat.{block_of, config_of, source_of, flat_block}
use Rattle.smoothing.specs.Smoothing.{smooth_of}
use Rattle.smoothblock.specs.Block.{Smoothed}

-- the refusal's number twice, 1 more where a run was moved; the block, on a refusal as it was
abbrev pub smooth_laid : Smoothed → List ℕ → ℕ × List ℕ
smooth_laid done list = (2 * done.refusal + bit done.changed, pick (eqb done.refusal 0) (sets list 0 (flat_block done.cu)) list)

unfoldable pub smooth_out : List ℕ → List ℕ → List ℕ → List ℤ → List ℕ → Float → Float → List ℕ → ℕ × List ℕ
smooth_out luma cb cr config source lambda bits block = smooth_laid (smooth_of luma cb cr (config_of config) (source_of source) lambda bits (block_of block)) block
