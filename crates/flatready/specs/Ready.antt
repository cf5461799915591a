-- A block that holds together and a call of update that is in order, over the lists of numbers.
use Rattle.std.specs.Prelude.{◌≡◌, Bool, true, List, ℕ, ◌≤◌, length}
use Rattle.base.specs.Pick.{pick}
use Rattle.flat.specs.Flat.{number, block_of, predictor_of}
use Rattle.model.specs.Domain.{most}
use Rattle.model.specs.Whole.{holds}
use Rattle.predictor.specs.Update.{update_refusal}
use Rattle.whole.specs.Parts.{frame_holds}

-- the clauses on a block's numbers
abbrev pub framed_of : List ℕ → Bool
framed_of b = frame_holds 64 (block_of b).size (block_of b).chroma_idc (block_of b).bd_luma (block_of b).bd_chroma (block_of b).palette_size (block_of b).tolerance

-- the greatest level at the luma depth
abbrev pub level_most : List ℕ → ℕ
level_most b = pick (block_of b).lossless (most (block_of b).bd_luma) 32767

-- the list is whole and its block holds together, with entries, chroma and one depth
pub record BlockReady (b : List ℕ) : Type 0 where
  pub block : 4432 ≤ length b
  pub together : holds 64 (block_of b) ≡ true
  pub entries : number b 5 ≤ 64
  pub some : 1 ≤ number b 5
  pub chroma : 1 ≤ number b 1
  pub same : number b 2 ≡ number b 3

-- both lists are whole, nothing is refused, and counts are in their bounds
pub record Ready (p b : List ℕ) (limit : ℕ) : Type 0 where
  pub none : update_refusal (predictor_of p) (block_of b) limit ≡ 0
  pub block : 4432 ≤ length b
  pub predictor : 385 ≤ length p
  pub most : limit ≤ 128
  pub entries : number b 5 ≤ 64
  pub size : number p 0 ≤ 128
