-- What the exported reconstruction answers and leaves in the planes lent to it: the entry point's answer over the records that the lists of numbers are.
use Rattle.std.specs.Prelude.{List, ℕ, ℤ}
use Rattle.flat.specs.Flat.{block_of, config_of, source_of}
use Rattle.recon.specs.Recon.{recon_of}

unfoldable pub recon_out : List ℕ → List ℕ → List ℕ → ℕ → ℕ → List ℤ → List ℕ → List ℕ → ℕ × List ℕ × List ℕ × List ℕ
recon_out luma cb cr ys cs config source block = recon_of luma cb cr ys cs (config_of config) (source_of source) (block_of block)
