-- `assigning::map_block`: indices of the samples in scan order; then levels and figure.
use mathlib.Core.Path.{◌≡◌, refl, ap, ◌∙◌}
use Prim.Native.Nat.{ℕ, ◌*◌, ◌≤◌, ◌<◌}
use native.Mathlib.Omega.{arith}
use borrow.Author.Tests.{le-leb, lt-leb}
use lib.ListN.{get_or, length, replicate, length-replicate}
use Rattle.base.specs.Cells.{laid_in}
use Rattle.model.specs.declared.PaletteCu.{PaletteCu}
use Rattle.levels.specs.Levels.{scale_of}
use Rattle.figure.specs.Figure.{scan_sample, block_figure}
use Rattle.figure.specs.Laws.{in_rows}
use Rattle.assigning.specs.Assigning.{escapes, escapes_in}
use Rattle.assigning.specs.Laws.{map-refused, map-made, scan_small, escapes-made, mapped-made}
use Rattle.assigning.proofs.map_block.Goals as goal

pub returns-then-n-e : goal.returns-then-n-e
unfolding escapes_in
returns-then-n-e c = let s = c.args in
    let t = s.transpose in
    let f = in_rows s.cu.size s.cells.now in
    let n = s.cu.size * s.cu.size in
    let h : (j : ℕ) → j < n → get_or c.unroll.new.out j 0 ≡ scan_sample t s.cu.size f j =
    λ j l. rw c.unroll.ensures (laid_in (scan_sample t s.cu.size f) (replicate 1024 0) 0 n j 0 (omega arith) (omega arith) (omega (arith, length-replicate {A = ℕ} 1024 0, c.area-n.ensures.0, c.area-n.ensures.1))) in
    let e = escapes-made s.c t s.cu f c.unroll.new.out c.pack_palette-palette.result c.pack_palette-palette.ensures.0 h c.assign-e.result (rw c.area-n.ensures.0 at c.assign-e.ensures.0) in
    map-refused s.c t s.cu f (lt-leb (escapes t s.cu f * 4) n (omega (arith, e, c.area-n.ensures.0, c.if-n-e.true)))

pub with_cells-out-requires : goal.with_cells-out-requires
with_cells-out-requires c = let s = c.args in
    let t = s.transpose in
    let f = in_rows s.cu.size s.cells.now in
    let n = s.cu.size * s.cu.size in
    (c.requires.c_value.0, c.requires.c_value.1, λ j l. rw (c.unroll.ensures, laid_in (scan_sample t s.cu.size f) (replicate 1024 0) 0 n j 0 (omega arith) (omega arith) (omega (arith, length-replicate {A = ℕ} 1024 0, c.area-n.ensures.0, c.area-n.ensures.1))) (scan_small t s.cu.size s.cells.now c.requires.by_index j l))

pub returns : goal.returns
unfolding escapes_in
returns c = let s = c.args in
    let t = s.transpose in
    let f = in_rows s.cu.size s.cells.now in
    let n = s.cu.size * s.cu.size in
    let h : (j : ℕ) → j < n → get_or c.unroll.new.out j 0 ≡ scan_sample t s.cu.size f j =
    λ j l. rw c.unroll.ensures (laid_in (scan_sample t s.cu.size f) (replicate 1024 0) 0 n j 0 (omega arith) (omega arith) (omega (arith, length-replicate {A = ℕ} 1024 0, c.area-n.ensures.0, c.area-n.ensures.1))) in
    let x = rw c.area-n.ensures.0 at c.assign-e.ensures.0 in
    let e = escapes-made s.c t s.cu f c.unroll.new.out c.pack_palette-palette.result c.pack_palette-palette.ensures.0 h c.assign-e.result x in
    let z : c.with_cells-out.result.size ≡ s.cu.size = ap (λ (x : PaletteCu). x.size) c.with_cells-out.ensures in
    let w : length s.cu.indices ≡ 1024 = c.well_formed.1.1.0.1.1.1.1.1.1.1.1.1.1.1.1.1.1.0.1.0.1 in
    let o : n ≤ length s.cu.indices = omega (arith, c.area-n.ensures.0, c.area-n.ensures.1, w) in
    map-made s.c t s.cu c.with_cells-out.result f c.block_figure.result (le-leb (escapes t s.cu f * 4) n (omega (arith, e, c.area-n.ensures.0, c.if-n-e.false)))
    (mapped-made s.c t s.cu f c.unroll.new.out c.pack_palette-palette.result c.pack_palette-palette.ensures.0 h c.assign-e.result _ _ c.with_cells-out.result o c.with_cells-out.ensures x (rw c.area-n.ensures.0 at c.assign-e.ensures.1) refl)
    (c.block_figure.ensures ∙ ap (λ (k : ℕ). block_figure (scale_of s.c) c.with_cells-out.result (in_rows k s.cells.now)) z)
