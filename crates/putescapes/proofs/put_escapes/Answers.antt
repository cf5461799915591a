-- `putescapes::put_escapes`
use mathlib.Core.Path.{refl}
use native.Mathlib.Omega.{arith}
use borrow.Author.Tests.{eq-eqb, ne_eqb}
use lib.ListN.{take}
use Rattle.base.specs.Laid.{laid_none}
use Rattle.flat.specs.Flat.{block_of}
use Rattle.putescapes.specs.Escapes.{levels-laid}
use Rattle.putescapes.proofs.put_escapes.Goals as goal

pub chroma_depth-d-requires : goal.chroma_depth-d-requires
chroma_depth-d-requires c = omega (arith, c.byte.ensures, c.requires.0.chroma)

pub put_levels-p-requires : goal.put_levels-p-requires
put_levels-p-requires c = (c.requires.0, c.requires.1, omega arith, omega (arith, c.byte-luma.ensures, c.requires.0.luma), omega arith)

pub put_levels-q-requires : goal.put_levels-q-requires
put_levels-q-requires c = (c.requires.0, c.requires.1, omega arith, omega (arith, c.chroma_depth-d.ensures.1), omega (arith, c.put_levels-p.ensures.near))

pub put_levels-requires : goal.put_levels-requires
put_levels-requires c = (c.requires.0, c.requires.1, omega arith, omega (arith, c.chroma_depth-d.ensures.1), omega (arith, c.put_levels-p.ensures.near, c.put_levels-q.ensures.near))

pub returns-then-block-eq1 : goal.returns-then-block-eq1
unfolding block_of
returns-then-block-eq1 c = let b = block_of c.args.block.now in
    let n = c.args.n in record { laid = rw (eq-eqb _ _ c.if-block-eq1.true, ← c.byte-luma.ensures) (levels-laid b.chroma_idc b.size b.transpose b.lossless c.byte-luma.result b.bd_chroma c.chroma_depth-d.result b.palette_size (take n b.indices) (take n b.escapes) (rw (c.byte-format.ensures, c.byte.ensures) at c.chroma_depth-d.ensures.0) c.put_levels-p.ensures.laid c.put_levels-q.ensures.laid c.put_levels.ensures.laid); none = λ no. absurd (no c.if-block-eq1.true) }

pub returns : goal.returns
unfolding block_of
returns c = record { laid = rw (ne_eqb _ _ c.if-block-eq1.false) (laid_none _ _); none = λ no. refl }
