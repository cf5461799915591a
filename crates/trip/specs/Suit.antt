-- A block that holds together, with the predictor that its flags mark, is what the definitions of syntax ask of one.
use Rattle.std.specs.Prelude.{Bool, not, List, [], ◌∷◌, map, ◌≢◌, ◌≡◌, refl, ℕ, suc, ◌*◌, ◌-◌, ◌^◌, ◌≤◌, ◌<◌, leb, eqb, length, take, get_or}
use Rattle.std.proofs.Math.Bool.{true, false}
use Rattle.std.proofs.Common.{ap, ◌∙◌, mul-le-mul, arith, pow_pos, length-take-le, take-take, get_or-take}
use Rattle.std.proofs.Math.Path.{sym}
use Rattle.std.proofs.lemmas.List.{length-map}
use Rattle.std.proofs.Math.ListN.{get_or-map}
use borrow.Author.Tests.{leb-true, eq-eqb, ne_eqb, not-true, lt-ltb}
use Rattle.base.specs.Alls.{all_by}
use Rattle.base.specs.Codes.{All, Each}
use Rattle.base.specs.Pick.{pick}
use Rattle.base.specs.Tests.{every, any, both}
use Rattle.h265.specs.Reuse.{trues, flagged}
use Rattle.model.specs.Domain.{most, most_chroma, color_in, no_color}
use Rattle.model.specs.Whole.{max_index, level_in, levels_in, no_levels, empty_holds, holds}
use Rattle.model.specs.WholeLaws.{Whole, whole}
use Rattle.model.specs.declared.Color.{Color}
use Rattle.model.specs.declared.Levels.{Levels}
use Rattle.model.specs.declared.PaletteCu.{PaletteCu}
use Rattle.model.specs.declared.PalettePredictor.{PalettePredictor}
use Rattle.syntax.specs.Block.{Entry, Call, chosen}
use Rattle.syntax.specs.LevelLaws.{InLevel}
use Rattle.syntax.specs.PaletteLaws.{Fits, CallOk}
use Rattle.syntax.specs.Records.{call_of, block_of}
use Rattle.syntax.specs.Runs.{Run}
use Rattle.syntax.specs.Test.{replays, replays-rules}
use Rattle.syntax.specs.Whole.{top_index, Suits, Runs}
use Rattle.syntax.specs.Whole as S
use Rattle.write.specs.Write.{runs_hold}
use Rattle.eyes.specs.Ready.{Ready, Arrays}

-- ---- lists

each_by : {X A : Type 0} (Ok : X → A → Type 0) (xs : List X) (vs : List A) (d : X) (e : A) → length xs ≡ length vs → ((i : ℕ) → i < length xs → Ok (get_or xs i d) (get_or vs i e)) → Each Ok xs vs
each_by Ok [] [] d e n h = tt
each_by Ok [] (v ∷ vs) d e n h = absurd (omega arith)
each_by Ok (x ∷ xs) [] d e n h = absurd (omega arith)
each_by Ok (x ∷ xs) (v ∷ vs) d e n h = (h 0 (omega arith), each_by Ok xs vs d e (omega arith) (λ i l. h (suc i) (omega arith)))

-- the marked entries, said in two ways
pub chosen-flagged : (fs : List Bool) (es : List Entry) → flagged fs es ≡ chosen fs es
unfolding chosen flagged
chosen-flagged [] es = refl
chosen-flagged (f ∷ fs) [] = refl
chosen-flagged (true ∷ fs) (e ∷ es) = ap (λ (x : List Entry). e ∷ x) (chosen-flagged fs es)
chosen-flagged (false ∷ fs) (e ∷ es) = chosen-flagged fs es

-- ---- numbers in range

below : (d v : ℕ) → v ≤ most d → v < 2 ^ d
below d v h = omega (arith, pow_pos d)

below-chroma : (t : Bool) (d v : ℕ) → v ≤ pick t 0 (most d) → v < 2 ^ pick t 0 d
below-chroma true d v h = omega arith
below-chroma false d v h = below d v h

pub color_fits : (c : Call) (e : Color) → color_in c.format c.luma c.chroma e ≡ true → Fits c e
unfolding color_in
color_fits c e h =
    let y = both (leb e.y (most c.luma)) _ h in
    let u = both (leb e.cb (most_chroma c.format c.chroma)) _ y.1 in
    let v = both (leb e.cr (most_chroma c.format c.chroma)) true u.1 in
    record {
      y = below c.luma e.y (leb-true _ _ y.0);
      cb = below-chroma (eqb c.format 0) c.chroma e.cb (leb-true _ _ u.0);
      cr = below-chroma (eqb c.format 0) c.chroma e.cr (leb-true _ _ v.0);
    }

level_in_lem : (lossless : Bool) (d v : ℕ) → level_in lossless d v ≡ true → InLevel lossless d v
unfolding level_in
level_in_lem true d v e = below d v (leb-true v (most d) e)
level_in_lem false d v e = leb-true v 32767 e

record InUse (cu : PaletteCu) (l : Levels) : Type 0 where
  y : InLevel cu.lossless cu.bd_luma l.y
  cb : cu.chroma_idc ≢ 0 → InLevel cu.lossless cu.bd_chroma l.cb
  cr : cu.chroma_idc ≢ 0 → InLevel cu.lossless cu.bd_chroma l.cr

in_use : (cu : PaletteCu) (l : Levels) → levels_in cu l ≡ true → InUse cu l
unfolding levels_in
in_use cu l e =
    let chroma = every (level_in cu.lossless cu.bd_chroma l.cb ∷ level_in cu.lossless cu.bd_chroma l.cr ∷ []) in
    let a = both (level_in cu.lossless cu.bd_luma l.y) _ e in
    let b = both (any (eqb cu.chroma_idc 0 ∷ chroma ∷ [])) true a.1 in
    let f : cu.chroma_idc ≢ 0 → chroma ≡ true = λ z. (both chroma true (used (eqb cu.chroma_idc 0) chroma (ne_eqb _ _ z) b.0)).0 in
    record {
      y = level_in_lem cu.lossless cu.bd_luma l.y a.0;
      cb = λ z. level_in_lem cu.lossless cu.bd_chroma l.cb (both (level_in cu.lossless cu.bd_chroma l.cb) _ (f z)).0;
      cr = λ z. level_in_lem cu.lossless cu.bd_chroma l.cr (both (level_in cu.lossless cu.bd_chroma l.cr) true (both (level_in cu.lossless cu.bd_chroma l.cb) _ (f z)).1).0;
    }
  where
    used : (t u : Bool) → t ≡ false → any (t ∷ u ∷ []) ≡ true → pick u true false ≡ true
    used t u z e = rw z at e

-- ---- the block

module _ (cu : PaletteCu) (p : PalettePredictor) (a : Arrays p cu) (ready : Ready p cu) where
  abbrev n : ℕ
  n = cu.size * cu.size

  abbrev flags : List Bool
  flags = take cu.pred_size cu.reused

  -- what the reader is lent beside the bins
  abbrev pub call : Call
  call = call_of 64 (take p.size p.entries) cu

  the_whole : Whole 64 cu
  the_whole = whole 64 cu ready.whole

  few : n ≤ 1024
  few = let w = the_whole in mul-le-mul w.small w.small

  pub colours_are : length (take cu.palette_size cu.palette) ≡ cu.palette_size
  colours_are = length-take-le cu.palette_size cu.palette (omega (arith, a.palette, the_whole.entries))

  pub flags_are : length flags ≡ cu.pred_size
  flags_are = length-take-le cu.pred_size cu.reused (omega (arith, a.flags, the_whole.flags))

  pub cells_are : length (take n cu.indices) ≡ n
  cells_are = length-take-le n cu.indices (omega (arith, a.indices, few))

  pub levels_are : length (take n cu.escapes) ≡ n
  levels_are = length-take-le n cu.escapes (omega (arith, a.levels, few))

  predictor_is : length (take p.size p.entries) ≡ p.size
  predictor_is = length-take-le p.size p.entries (omega (arith, a.entries, the_whole.flags, ready.flags))

  pub top-is : top_index (block_of cu) ≡ max_index cu
  unfolding max_index
  top-is = rw colours_are

  fits_all : All (Fits call) (take cu.palette_size cu.palette)
  fits_all =
      all_by (Fits call) (take cu.palette_size cu.palette) no_color (λ i l.
      let m : i < cu.palette_size = omega (arith, colours_are) in
      rw (get_or-take cu.palette_size cu.palette i no_color m) (color_fits call (get_or cu.palette i no_color) (the_whole.fit i m)))

  cells-most : All (λ x. x ≤ top_index (block_of cu)) (take n cu.indices)
  cells-most =
      all_by (λ x. x ≤ top_index (block_of cu)) (take n cu.indices) 0 (λ i l.
      let m : i < n = omega (arith, cells_are) in
      rw (get_or-take n cu.indices i 0 m, top-is) (the_whole.index i m))

  -- the levels of an escape cell are in range
  escape_levels : (i : ℕ) → i < n → get_or (take n cu.indices) i 0 ≡ length (take cu.palette_size cu.palette) → InUse cu (get_or cu.escapes i no_levels)
  escape_levels i m e =
      let x : get_or cu.indices i 0 ≡ cu.palette_size = sym (get_or-take n cu.indices i 0 m) ∙ e ∙ colours_are in
      in_use cu (get_or cu.escapes i no_levels) (rw (eq-eqb _ _ x) at (the_whole.levels i m))

  module _ (f : Levels → ℕ) where
    pub column-is : length (take n cu.indices) ≡ length (map f (take n cu.escapes))
    column-is = cells_are ∙ sym (length-map (take n cu.escapes) f ∙ levels_are)

    pub column-at : (i : ℕ) → i < n → get_or (map f (take n cu.escapes)) i (f no_levels) ≡ f (get_or cu.escapes i no_levels)
    column-at i m = get_or-map f (take n cu.escapes) i no_levels ∙ ap f (get_or-take n cu.escapes i no_levels m)

  pub suit_whole : S.Whole call (block_of cu)
  unfolding empty_holds
  suit_whole = record {
    limit = rw colours_are the_whole.entries;
    flags = rw flags_are the_whole.flags;
    sum = the_whole.counts ∙ sym colours_are;
    fits = fits_all;
    count = cells_are;
    cells = cells-most;
    y = each_by _ (take n cu.indices) (map (λ v. v.y) (take n cu.escapes)) 0 0 (column-is (λ v. v.y)) (λ i l e.
        let m : i < n = omega (arith, cells_are) in
        rw (column-at (λ v. v.y) i m) (escape_levels i m e).y);
    cb = each_by _ (take n cu.indices) (map (λ v. v.cb) (take n cu.escapes)) 0 0 (column-is (λ v. v.cb)) (λ i l e z.
        let m : i < n = omega (arith, cells_are) in
        rw (column-at (λ v. v.cb) i m) ((escape_levels i m e).cb z));
    cr = each_by _ (take n cu.indices) (map (λ v. v.cr) (take n cu.escapes)) 0 0 (column-is (λ v. v.cr)) (λ i l e z.
        let m : i < n = omega (arith, cells_are) in
        rw (column-at (λ v. v.cr) i m) ((escape_levels i m e).cr z));
    empty = λ e.
        let z : cu.palette_size ≡ 0 = sym colours_are ∙ e in
        let b = both cu.escape_present _ (rw (eq-eqb _ _ z) at the_whole.empty) in
        (b.0, not-true cu.transpose (both (not cu.transpose) true b.1).0);
  }

  pub suits : Suits call (block_of cu)
  suits = record {
    flags = flags_are ∙ ready.flags ∙ sym predictor_is;
    colours = take-take (trues flags) cu.palette_size cu.palette (omega (arith, the_whole.counts)) ∙ ready.starts ∙ chosen-flagged flags (take p.size p.entries);
  }

  pub call_ok : CallOk call
  call_ok = record { size = the_whole.least; most = the_whole.small; limit = omega arith; predictor = omega (arith, predictor_is, the_whole.flags, ready.flags) }

  pub runs_suit : (runs : List Run) (count : ℕ) → runs_hold cu runs count ≡ true → Runs call (block_of cu) (take count runs)
  unfolding runs_hold
  runs_suit runs count e o =
      let q : 0 < max_index cu = rw top-is at o in
      let b = both (leb count 1024) _ (rw (lt-ltb 0 (max_index cu) q) at e) in
      let r = both (replays cu.size n (max_index cu) (take n cu.indices) 0 false (take count runs)) true b.1 in
      rw top-is (replays-rules cu.size n (max_index cu) (take n cu.indices) 0 false (take count runs) r.0)
