-- `putpalette::put_entries`
use mathlib.Core.List.{[]}
use native.Mathlib.Omega.{arith}
use lib.ListN.{take, drop}
use Prim.Native.Nat.{◌-◌}
use Rattle.flat.specs.Flat.{block_of}
use Rattle.syntax.specs.Records.{call_of}
use Rattle.putpalette.specs.Palette.{entries-laid}
use Rattle.putpalette.proofs.put_entries.Goals as goal

pub chroma_depth-d-requires : goal.chroma_depth-d-requires
chroma_depth-d-requires c = omega (arith, c.byte-2.ensures, c.requires.0.chroma)

pub put_column-p-requires : goal.put_column-p-requires
put_column-p-requires c = (c.requires.0.block, omega arith, omega arith, omega arith, omega (arith, c.byte-luma.ensures, c.requires.0.luma), omega arith)

pub put_column-q-requires : goal.put_column-q-requires
put_column-q-requires c = (c.requires.0.block, omega arith, omega arith, omega arith, omega (arith, c.chroma_depth-d.ensures.1), omega (arith, c.put_column-p.ensures.near))

pub put_column-requires : goal.put_column-requires
put_column-requires c = (c.requires.0.block, omega arith, omega arith, omega arith, omega (arith, c.chroma_depth-d.ensures.1), omega (arith, c.put_column-p.ensures.near, c.put_column-q.ensures.near))

pub returns : goal.returns
unfolding block_of
returns c = let g = c.args in
    let b = block_of g.block.now in record { laid = entries-laid (call_of 64 [] b) c.chroma_depth-d.result (g.to - g.from) (drop g.from (take g.to b.palette)) (rw (c.byte.ensures, c.byte-2.ensures) at c.chroma_depth-d.ensures.0) (rw c.byte-luma.ensures at c.put_column-p.ensures.laid) c.put_column-q.ensures.laid c.put_column.ensures.laid; near = omega (arith, c.put_column-p.ensures.near, c.put_column-q.ensures.near, c.put_column.ensures.near) }
