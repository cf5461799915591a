-- `recon::put_block`: the colours of the cells that lie in the planes, then plane by plane.
use mathlib.Core.Path.{refl}
use Prim.Native.Nat.{ℕ, ◌*◌, ◌≤◌}
use native.Mathlib.Nat.{mul-le-mul}
use native.Mathlib.Omega.{arith}
use lib.ListN.{length, replicate, length-replicate}
use Rattle.onto.specs.Laws.{scan_rows}
use Rattle.recon.specs.Recon.{chroma_onto}
use Rattle.recon.specs.Laws.{cells-room, luma_sized, chroma-sized, taken, luma_made, chroma-made}
use Rattle.recon.proofs.put_block.Goals as goal

pub block_rows-n-requires : goal.block_rows-n-requires
block_rows-n-requires c = let s = c.args in
    let t = taken s.ys s.cs s.c s.g s.cu (length s.luma.now) (length s.cb.now) (length s.cr.now) c.requires.0 c.requires.1 in
    rw (c.luma_onto-l.ensures, c.chroma_onto-b.ensures)
    (luma_sized s.ys s.g s.cu.size s.cu.transpose t.small, chroma-sized s.cs s.cu.chroma_idc s.g s.cu.size s.cu.transpose 1 t.small, refl)

pub overflow_mul-n : goal.overflow_mul-n
overflow_mul-n c = let s = c.args in
    let t = taken s.ys s.cs s.c s.g s.cu (length s.luma.now) (length s.cb.now) (length s.cr.now) c.requires.0 c.requires.1 in
    let k : c.block_rows-n.result ≤ s.cu.size = rw c.luma_onto-l.ensures at c.block_rows-n.ensures.2 in
    let h : c.block_rows-n.result ≤ 32 = omega (arith, k, t.small) in
    let q : c.block_rows-n.result * s.cu.size ≤ 32 * 32 = mul-le-mul h t.small in
    omega (arith, q)

pub cell_colors-requires : goal.cell_colors-requires
cell_colors-requires c = let s = c.args in
    let t = taken s.ys s.cs s.c s.g s.cu (length s.luma.now) (length s.cb.now) (length s.cr.now) c.requires.0 c.requires.1 in
    let k : c.block_rows-n.result ≤ s.cu.size = rw c.luma_onto-l.ensures at c.block_rows-n.ensures.2 in
    let h : c.block_rows-n.result ≤ 32 = omega (arith, k, t.small) in
    let q : c.block_rows-n.result * s.cu.size ≤ 32 * 32 = mul-le-mul h t.small in
    (c.requires.0.config, omega (arith, q))

pub put_plane-requires : goal.put_plane-requires
put_plane-requires c = let s = c.args in
    let t = taken s.ys s.cs s.c s.g s.cu (length s.luma.now) (length s.cb.now) (length s.cr.now) c.requires.0 c.requires.1 in
    let q : s.cu.size * s.cu.size ≤ 32 * 32 = mul-le-mul t.small t.small in
    let z : s.cu.size * s.cu.size ≤ length (replicate {A = ℕ} 1024 0) = omega (arith, q, length-replicate {A = ℕ} 1024 0) in
    let w = cells-room _ (replicate 1024 0) _ _ s.cu.size c.cell_colors.ensures z in
    rw c.luma_onto-l.ensures (t.luma, w)

pub put_chroma-requires : goal.put_chroma-requires
put_chroma-requires c = let s = c.args in
    let t = taken s.ys s.cs s.c s.g s.cu (length s.luma.now) (length s.cb.now) (length s.cr.now) c.requires.0 c.requires.1 in
    let q : s.cu.size * s.cu.size ≤ 32 * 32 = mul-le-mul t.small t.small in
    let z : s.cu.size * s.cu.size ≤ length (replicate {A = ℕ} 1024 0) = omega (arith, q, length-replicate {A = ℕ} 1024 0) in
    let w = cells-room _ (replicate 1024 0) _ _ s.cu.size c.cell_colors.ensures z in
    rw (c.chroma_onto-b.ensures, c.chroma_onto-r.ensures) (t.cb, t.cr, w, w)

pub returns : goal.returns
returns c = let s = c.args in
    let n = c.block_rows-n.result in
    let t = taken s.ys s.cs s.c s.g s.cu (length s.luma.now) (length s.cb.now) (length s.cr.now) c.requires.0 c.requires.1 in
    let k : n ≤ s.cu.size = rw c.luma_onto-l.ensures at c.block_rows-n.ensures.2 in
    let h : n ≤ 32 = omega (arith, k, t.small) in
    let q : n * s.cu.size ≤ 32 * 32 = mul-le-mul h t.small in
    let z : n * s.cu.size ≤ length (replicate {A = ℕ} 1024 0) = omega (arith, q, length-replicate {A = ℕ} 1024 0) in
    let b : 1 ≤ s.cu.chroma_idc → scan_rows (chroma_onto s.cs s.cu.chroma_idc s.g s.cu.size s.cu.transpose 1) ≤ n = rw c.chroma_onto-b.ensures at c.block_rows-n.ensures.1 in (
      luma_made s.ys s.c s.g s.cu c.luma_onto-l.result (replicate 1024 0) _ s.luma.now _ (length s.luma.now) n c.luma_onto-l.ensures t.luma c.block_rows-n.ensures.0 z c.cell_colors.ensures c.put_plane.ensures,
      chroma-made s.cs s.c s.g s.cu c.chroma_onto-b.result (replicate 1024 0) _ s.cb.now _ (length s.cb.now) n 1 c.chroma_onto-b.ensures t.cb b z c.cell_colors.ensures c.put_chroma.ensures.0,
      chroma-made s.cs s.c s.g s.cu c.chroma_onto-r.result (replicate 1024 0) _ s.cr.now _ (length s.cr.now) n 2 c.chroma_onto-r.ensures t.cr b z c.cell_colors.ensures c.put_chroma.ensures.1,
    )
