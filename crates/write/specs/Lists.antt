-- Lists of numbers that are a block which holds together and enough runs; the answers over them; and that a block laid as such a list is the block.
use Rattle.std.specs.Prelude.{◌≡◌, refl, true, false, List, [], ◌∷◌, ◌++◌, map, ℕ, ◌+◌, ◌*◌, ◌≤◌, ◌<◌, eqb, length, take, drop, get_or, replicate}
use Rattle.std.proofs.Common.{ap, sym, ◌∙◌, append-nil, arith, length-drop, length-append, drop_of_length-le, take_at, length-take-le, get_or-take, get_or-drop, ext_get_or}
use Rattle.std.proofs.lemmas.List.{length-replicate, length-map}
use Rattle.std.proofs.lemmas.List.Edits.{sets, sets-eq}
use Rattle.base.specs.Cells.{laid-length}
use Rattle.base.specs.Laid.{Laid}
use Rattle.base.specs.Tests.{refusal, both}
use Rattle.h265.specs.BitLaws.{bit_below}
use Rattle.h265.specs.Strings.{bit}
use Rattle.flat.specs.Flat.{number, byte, block_of, head_of, colors_of, levels_of, flat_block}
use Rattle.flat.specs.FlatLaws.{each_at_lem, Fits, colors_length, levels-length, block_flat}
use Rattle.model.specs.declared.PaletteCu.{PaletteCu}
use Rattle.model.specs.Whole.{max_index, block_size_in, holds}
use Rattle.model.specs.WholeLaws.{whole}
use Rattle.putescapes.specs.Cells.{Sized, byte-own}
use Rattle.putpalette.specs.Palette.{Headed}
use Rattle.syntax.specs.Runs.{Run}
use Rattle.write.specs.Written.{Written}
use Rattle.write.specs.Write.{bins_of, runs_hold}
use Rattle.write.specs.Laws.{fit, Wrote, write_early, write_done}

pub record Lists (b rs : List ℕ) (count : ℕ) : Type 0 where
  pub block : 4432 ≤ length b
  pub together : holds 64 (block_of b) ≡ true
  pub runs : count ≤ 1024 → 4 * count ≤ length rs

-- the bounds of a block's numbers
pub record Small (b : List ℕ) : Type 0 where
  pub size : number b 0 ≤ 32
  pub entries : number b 5 ≤ 64

pub small : (b : List ℕ) → holds 64 (block_of b) ≡ true → Small b
unfolding block_of
small b e = let f = fit (block_of b) e in record { size = f.small; entries = f.entries }

-- what the writers of its palette and of its levels ask
module _ (b : List ℕ) (l : 4432 ≤ length b) (e : holds 64 (block_of b) ≡ true) where
  pub headed : Headed b
  unfolding block_of
  headed = let f = fit (block_of b) e in record { block = l; luma = f.luma; chroma = f.chroma; entries = f.entries; flags = f.flags; signaled = f.signaled; reused = f.reused }

  pub celled : Sized b
  unfolding block_of
  celled = let f = fit (block_of b) e in record { block = l; least = f.least; entries = f.entries; luma = f.luma; chroma = f.chroma }

-- the cells of a block that holds together are its list's own numbers
pub cells_are : (b : List ℕ) (n : ℕ) → 4432 ≤ length b → holds 64 (block_of b) ≡ true → n ≡ number b 0 * number b 0 → n ≤ 1024 → take n (drop 336 b) ≡ take n (block_of b).indices
unfolding block_of max_index
cells_are b n l e k h =
    let w = whole 64 (block_of b) e in
    let p : length (take n (drop 336 b)) ≡ n = length-take-le n (drop 336 b) (omega (arith, length-drop 336 b)) in
    let q : length (take n (block_of b).indices) ≡ n = length-take-le n (block_of b).indices (omega (arith, laid-length (λ (i : ℕ). byte (number b (336 + i))) (replicate 1024 0) 0 1024, length-replicate {A = ℕ} 1024 0)) in
    ext_get_or 0 (take n (drop 336 b)) (take n (block_of b).indices) (p ∙ sym q) (λ i m.
    let j : i < n = omega arith in
    let f : get_or (block_of b).indices i 0 ≡ byte (number b (336 + i)) = each_at_lem 0 0 1024 (λ (i : ℕ). byte (number b (336 + i))) i (omega arith) in
    let t : i < number b 0 * number b 0 = omega arith in
    get_or-take n (drop 336 b) i 0 j ∙ get_or-drop 336 b i 0 ∙ byte-own (number b (336 + i)) (omega (arith, w.index i t, w.entries, f, bit_below (eqb (number b 8) 1))) ∙ sym (get_or-take n (block_of b).indices i 0 j ∙ f))

-- ---- bytes copied

-- n bytes over the first n of a list
pub front_copied : (l s m : List ℕ) (n : ℕ) → n ≤ length l → length m ≡ n → m ≡ s → m ++ drop n l ≡ sets l 0 s
front_copied l s m n h k e =
    let z : 0 + length s ≡ n = omega (arith, ap length e) in
    rw e (sym (sets-eq s l 0 (omega arith) ∙ ap (λ (x : ℕ). s ++ drop x l) z))

-- what was laid on a list that has room is its front
pub front-laid : (l s : List ℕ) → length s ≤ length l → take (length s) (sets l 0 s) ≡ s
front-laid l s h = rw (sets-eq s l 0 (omega arith)) (take_at s (drop (0 + length s) l) (length s) refl)

-- ---- the answers

module _ (cu : PaletteCu) (runs : List Run) (count : ℕ) (l : List ℕ) (together : holds 64 cu ≡ true) where
  sized : block_size_in cu ≡ true
  unfolding holds
  sized = (both (block_size_in cu) _ together).0

  pub none-early : runs_hold cu runs count ≡ true → refusal ((block_size_in cu, 2) ∷ (holds 64 cu, 7) ∷ (runs_hold cu runs count, 8) ∷ []) ≡ 0
  none-early e = rw (sized, together, e)

  pub write_eight : (r : Written) → r ≡ record { refusal = 8; bins = 0 } → runs_hold cu runs count ≡ false → Wrote cu runs count l r l
  write_eight r z e = write_early cu runs count l 8 r z (rw (sized, together, e)) (λ w. omega arith)

  -- bins laid on a list of their own, and the front of that laid
  pub write_front : (n : ℕ) (own own' m : List ℕ) → runs_hold cu runs count ≡ true → Laid own 0 (bins_of cu (take count runs)) n own' → n ≤ length own → n ≤ length l → m ≡ sets l 0 (take n own') → Wrote cu runs count l (record { refusal = 0; bins = n }) m
  write_front n own own' m e d h k z =
      let s : List ℕ = bins_of cu (take count runs) in
      let j : n ≡ length s = omega (arith, d.next) in
      let f : take n own' ≡ s = rw (d.after, j) (front-laid own s (omega arith)) in
      write_done cu runs count l n m (none-early e) (omega arith) (record { next = d.next; after = z ∙ ap (sets l 0) f })

-- ---- a block laid as a list of numbers

pub fits : (cu : PaletteCu) → holds 64 cu ≡ true → cu.sse < 18446744073709551616 → length cu.palette ≡ 64 → length cu.reused ≡ 128 → length cu.indices ≡ 1024 → length cu.escapes ≡ 1024 → ((i : ℕ) → i < 1024 → get_or cu.indices i 0 ≤ 255) → Fits cu
fits cu e figure palette reused indices escapes index =
    let w = whole 64 cu e in
    let f = fit cu e in
    record {
      size = omega (arith, f.small);
      format = omega (arith, w.format);
      luma = omega (arith, f.luma);
      chroma = omega (arith, f.chroma);
      entries = omega (arith, f.entries);
      flags = omega (arith, f.flags);
      signaled = omega (arith, f.signaled, f.entries);
      tolerance = omega (arith, w.tolerance);
      figure = figure;
      palette_length = palette;
      reused_length = reused;
      indices_length = indices;
      escapes_length = escapes;
      index = index;
    }

flat-long : (cu : PaletteCu) → Fits cu → length (flat_block cu) ≡ 4432
unfolding flat_block head_of
flat-long cu f =
    let ps = colors_of cu.palette in
    let fs = map bit cu.reused in
    let ls = levels_of cu.escapes in
    omega (arith, length-append ps (fs ++ (cu.indices ++ ls)), length-append fs (cu.indices ++ ls), length-append cu.indices ls, colors_length cu.palette, length-map cu.reused bit, levels-length cu.escapes, f.palette_length, f.reused_length, f.indices_length, f.escapes_length)

all_laid : (l s : List ℕ) → length s ≡ length l → sets l 0 s ≡ s
all_laid l s e =
    let z : drop (0 + length s) l ≡ [] = drop_of_length-le l {i = 0 + length s} (omega arith) in
    sets-eq s l 0 (omega arith) ∙ rw z (append-nil s)

pub block_back : (cu : PaletteCu) → Fits cu → (l : List ℕ) → length l ≡ 4432 → block_of (sets l 0 (flat_block cu)) ≡ cu
block_back cu f l h = ap block_of (all_laid l (flat_block cu) (flat-long cu f ∙ sym h)) ∙ block_flat cu f
