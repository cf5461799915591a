-- `write::flat_block`: each number has a place in the list, by its type or since the block holds together.
use mathlib.Core.Path.{ap, ◌∙◌}
use Prim.Native.Nat.{ℕ}
use native.Mathlib.Omega.{arith}
use borrow.Author.Rules.{elem_Fits}
use lib.ListN.{replicate, length-replicate}
use mir.Syntax.{w8}
use Rattle.flat.specs.Flat.{block_of}
use Rattle.write.specs.Lists.{fits, block_back}
use Rattle.write.proofs.flat_block.Goals as goal

pub returns : goal.returns
returns c = let cu = c.args.cu in
    let g = c.well_formed.0 in
    let q = g.1.1.1.1.1.1.1.1.1.1.1.1.1.1.0 in
    let f = fits cu c.requires (omega (arith, g.1.1.1.1.1.1.1.1.1.1.1.1.1.1.1.1.0)) (g.1.1.1.1.1.1.1.0.1.0.1) (g.1.1.1.1.1.1.1.1.1.0.1.0.1) (q.1.0.1) (g.1.1.1.1.1.1.1.1.1.1.1.1.1.1.1.0.1.0.1) (λ i h. omega (arith, elem_Fits w8 w8 cu.indices q.0 i q.1.1 tt)) in
    ap block_of c.lay_block.ensures ∙ block_back cu f (replicate {A = ℕ} 4432 0) (length-replicate {A = ℕ} 4432 0)
