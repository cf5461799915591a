-- `flatrecon::put_list`: the colours of the cells that lie in the planes, then plane by plane.
use mathlib.Core.Path.{refl}
use Prim.Native.Nat.{◌*◌, ◌≤◌}
use native.Mathlib.Nat.{mul-le-mul}
use native.Mathlib.Omega.{arith}
use lib.ListN.{length}
use Rattle.flat.specs.Flat.{number, block_of}
use Rattle.onto.specs.Laws.{scan_rows}
use Rattle.recon.specs.Recon.{chroma_onto}
use Rattle.recon.specs.Laws.{cells-room, luma_sized, chroma-sized, taken, luma_made, chroma-made}
use Rattle.flatrecon.specs.Cells.{sides}
use Rattle.flatrecon.proofs.put_list.Goals as goal

pub block_rows-n-requires : goal.block_rows-n-requires
unfolding block_of
block_rows-n-requires c = let s = c.args in
    let k = sides s.block.now c.requires.1 in
    rw (c.luma_onto-l.ensures, c.chroma_onto-b.ensures, c.from-size.ensures)
    (luma_sized s.ys s.g _ _ k, chroma-sized s.cs _ s.g _ _ 1 k, refl)

pub cell_colors-requires : goal.cell_colors-requires
cell_colors-requires c = let b = c.args.block.now in
    let k : c.block_rows-n.result ≤ number b 0 = rw (c.luma_onto-l.ensures, c.from-size.ensures) at c.block_rows-n.ensures.2 in
    let z : number b 0 ≤ number b 0 = omega arith in
    let q : c.block_rows-n.result * number b 0 ≤ number b 0 * number b 0 = mul-le-mul k z in
    rw c.from-size.ensures (c.requires.0.config, c.requires.1, q, omega (arith, q, c.requires.3))

pub put_plane-requires : goal.put_plane-requires
unfolding block_of
put_plane-requires c = let s = c.args in
    let w = cells-room _ s.cells.now _ _ (number s.block.now 0) c.cell_colors.ensures c.requires.3 in
    rw (c.luma_onto-l.ensures, c.from-size.ensures) ((taken s.ys s.cs s.c s.g (block_of s.block.now) (length s.luma.now) (length s.cb.now) (length s.cr.now) c.requires.0 c.requires.2).luma, w)

pub put_chroma-requires : goal.put_chroma-requires
unfolding block_of
put_chroma-requires c = let s = c.args in
    let t = taken s.ys s.cs s.c s.g (block_of s.block.now) (length s.luma.now) (length s.cb.now) (length s.cr.now) c.requires.0 c.requires.2 in
    let w = cells-room _ s.cells.now _ _ (number s.block.now 0) c.cell_colors.ensures c.requires.3 in
    rw (c.chroma_onto-b.ensures, c.chroma_onto-r.ensures, c.byte-format.ensures, c.from-size.ensures) (t.cb, t.cr, w, w)

pub returns : goal.returns
unfolding block_of
returns c = let s = c.args in
    let cu = block_of s.block.now in
    let n = c.block_rows-n.result in
    let t = taken s.ys s.cs s.c s.g cu (length s.luma.now) (length s.cb.now) (length s.cr.now) c.requires.0 c.requires.2 in
    let k : n ≤ cu.size = rw (c.luma_onto-l.ensures, c.from-size.ensures) at c.block_rows-n.ensures.2 in
    let h : cu.size ≤ cu.size = omega arith in
    let q : n * cu.size ≤ cu.size * cu.size = mul-le-mul k h in
    let z : n * cu.size ≤ length s.cells.now = omega (arith, q, c.requires.3) in
    let b : 1 ≤ cu.chroma_idc → scan_rows (chroma_onto s.cs cu.chroma_idc s.g cu.size cu.transpose 1) ≤ n = rw (c.chroma_onto-b.ensures, c.byte-format.ensures, c.from-size.ensures) at c.block_rows-n.ensures.1 in
    let cells = rw c.from-size.ensures at c.cell_colors.ensures in (
      luma_made s.ys s.c s.g cu c.luma_onto-l.result s.cells.now _ s.luma.now _ (length s.luma.now) n (rw c.from-size.ensures at c.luma_onto-l.ensures) t.luma c.block_rows-n.ensures.0 z cells c.put_plane.ensures,
      chroma-made s.cs s.c s.g cu c.chroma_onto-b.result s.cells.now _ s.cb.now _ (length s.cb.now) n 1 (rw (c.byte-format.ensures, c.from-size.ensures) at c.chroma_onto-b.ensures) t.cb b z cells (rw c.byte-format.ensures at c.put_chroma.ensures.0),
      chroma-made s.cs s.c s.g cu c.chroma_onto-r.result s.cells.now _ s.cr.now _ (length s.cr.now) n 2 (rw (c.byte-format.ensures, c.from-size.ensures) at c.chroma_onto-r.ensures) t.cr b z cells (rw c.byte-format.ensures at c.put_chroma.ensures.1),
    )
