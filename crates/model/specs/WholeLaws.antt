-- What a block that holds together has.
use Rattle.std.specs.Prelude.{◌≡◌, true, false, ℕ, ◌+◌, ◌*◌, ◌≤◌, ◌<◌, eqb, leb, get_or, take}
use Rattle.std.proofs.Common.{leb-true, eqb-true}
use Rattle.base.specs.Pick.{pick}
use Rattle.base.specs.Tests.{both, up_to, up_to-at}
use Rattle.h265.specs.Reuse.{trues}
use Rattle.model.specs.declared.PaletteCu.{PaletteCu}
use Rattle.model.specs.Domain.{size_in, even_in, depth_in, color_in, no_color}
use Rattle.model.specs.DomainLaws.{size_bounds}
use Rattle.model.specs.Whole.{max_index, block_size_in, format_holds, counts_hold, entries_hold, levels_in, no_levels, cell_holds, empty_holds, holds}

pub record Whole (limit : ℕ) (cu : PaletteCu) : Type 0 where
  pub least : 1 ≤ cu.size
  pub small : cu.size ≤ 32
  pub even : even_in cu.chroma_idc cu.size ≡ true
  pub format : cu.chroma_idc ≤ 3
  pub luma : depth_in cu.bd_luma ≡ true
  pub chroma : depth_in cu.bd_chroma ≡ true
  pub entries : cu.palette_size ≤ limit
  pub flags : cu.pred_size ≤ 128
  pub tolerance : cu.tolerance ≤ 16
  pub counts : trues (take cu.pred_size cu.reused) + cu.num_signaled ≡ cu.palette_size
  pub fit : (i : ℕ) → i < cu.palette_size → color_in cu.chroma_idc cu.bd_luma cu.bd_chroma (get_or cu.palette i no_color) ≡ true
  pub index : (i : ℕ) → i < cu.size * cu.size → get_or cu.indices i 0 ≤ max_index cu
  pub levels : (i : ℕ) → i < cu.size * cu.size → pick (eqb (get_or cu.indices i 0) cu.palette_size) (levels_in cu (get_or cu.escapes i no_levels)) true ≡ true
  pub empty : empty_holds cu ≡ true

pub whole : (limit : ℕ) (cu : PaletteCu) → holds limit cu ≡ true → Whole limit cu
unfolding holds block_size_in format_holds counts_hold entries_hold cell_holds
whole limit cu e =
    let a = both (block_size_in cu) _ e in
    let b = both (format_holds cu) _ a.1 in
    let p = both (leb cu.palette_size limit) _ b.1 in
    let f = both (leb cu.pred_size 128) _ p.1 in
    let t = both (leb cu.tolerance 16) _ f.1 in
    let n = both (counts_hold cu) _ t.1 in
    let s = both (entries_hold cu) _ n.1 in
    let x = both (up_to (cu.size * cu.size) (cell_holds cu)) _ s.1 in
    let z = both (empty_holds cu) true x.1 in
    let size = both (size_in cu.size) _ a.0 in
    let format = both (leb cu.chroma_idc 3) _ b.0 in
    let luma = both (depth_in cu.bd_luma) _ format.1 in
    let sides = size_bounds cu.size size.0 in
    let cell : (i : ℕ) → i < cu.size * cu.size → (leb (get_or cu.indices i 0) (max_index cu) ≡ true) × (pick (pick (eqb (get_or cu.indices i 0) cu.palette_size) (levels_in cu (get_or cu.escapes i no_levels)) true) true false ≡ true) =
    λ i h. both (leb (get_or cu.indices i 0) (max_index cu)) _ (up_to-at (cell_holds cu) _ x.0 i h)
    in
    record {
      least = sides.0;
      small = sides.1;
      even = (both (even_in cu.chroma_idc cu.size) true size.1).0;
      format = leb-true _ _ format.0;
      luma = luma.0;
      chroma = (both (depth_in cu.bd_chroma) true luma.1).0;
      entries = leb-true _ _ p.0;
      flags = leb-true _ _ f.0;
      tolerance = leb-true _ _ t.0;
      counts = eqb-true _ _ n.0;
      fit = up_to-at _ _ s.0;
      index = λ i h. leb-true _ _ (cell i h).0;
      levels = λ i h. (both _ true (cell i h).1).0;
      empty = z.0;
    }
