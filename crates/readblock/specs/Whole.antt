-- The palette that was read, and that palette, map and levels one after the other are the definition's block.
use Rattle.std.proofs.Math.Path.{◌≡◌, refl, ap, sym, subst}
use Rattle.std.proofs.Common.{◌∙◌}
use Rattle.std.specs.Prelude.{Bool, List, [], ◌++◌, ℕ, ◌*◌, ◌-◌, ◌≤◌}
use Rattle.std.proofs.Math.Bool.{false}
use native.Mathlib.Omega.{arith}
use Rattle.std.proofs.Math.ListN.{length, length-append}
use Rattle.std.proofs.Math.Seq.{drop_at}
use Rattle.base.specs.Answer.{Answer, Value, Refused, onward}
use Rattle.base.specs.Lists.{padded-take}
use Rattle.getentries.specs.Read.{lent}
use Rattle.getpalette.specs.Read.{PaletteRead, blank_read, palette_read}
use Rattle.h265.specs.Reuse.{trues}
use Rattle.model.specs.Domain.{no_color}
use Rattle.syntax.specs.Block.{Entry, Call, Palette, Map, Levels, colours, max_index, cells_of, chosen, entries_at, palette_at, map_at, chroma_due, levels_at, sent_at, told_by, read_block}
use Rattle.syntax.proofs.BlockLaws.{length-chosen}
use Rattle.syntax.specs.PaletteLaws.{CallOk, PaletteOk}
use Rattle.syntax.proofs.PaletteLaws.{palette_code}
use Rattle.readblock.specs.Read.{call_for, cu_read, refused_of, answer_of}
use Rattle.readblock.specs.Made.{pal_of, levels_to, rest_at, made_with, made_of}

module _ (size format luma chroma : ℕ) (lossless : Bool) (old : List Entry) (count : ℕ) (l : List ℕ) (n : length old ≡ count) where
  abbrev call : Call
  call = call_for size format luma chroma lossless old

  abbrev bare : Call
  bare = call_for size format luma chroma lossless []

  same_palette : (p : ℕ) → palette_at (lent 64 format luma chroma old) l p ≡ palette_at call l p
  unfolding palette_at entries_at
  same_palette p = refl

  same-levels : (x : Palette) (t : Bool) (cells : List ℕ) (p : ℕ) → levels_at bare x t cells l p ≡ levels_at call x t cells l p
  unfolding levels_at chroma_due
  same-levels x t cells p = refl

  -- ---- refused

  pub palette_refused : (pal : PaletteRead) (k q : ℕ) → pal ≡ palette_read old (palette_at (lent 64 format luma chroma old) l 0) → pal.next ≡ Refused k q → refused_of k q ≡ answer_of call (read_block call l 0)
  unfolding read_block sent_at answer_of palette_read blank_read
  palette_refused pal k q e g = of (palette_at (lent 64 format luma chroma old) l 0) refl
    where
      of : (a : Answer Palette) → palette_at (lent 64 format luma chroma old) l 0 ≡ a → refused_of k q ≡ answer_of call (read_block call l 0)
      of (Value x t) h =
          let z : Value tt t ≡ Refused k q = sym (ap (λ (y : PaletteRead). y.next) (e ∙ ap (palette_read old) h)) ∙ g in
          let o : ◌≡◌ {A = ℕ} 0 1 = cc in
          absurd (omega arith)
      of (Refused m t) h =
          let z : Refused m t ≡ Refused k q = sym (ap (λ (y : PaletteRead). y.next) (e ∙ ap (palette_read old) h)) ∙ g in
          let a : m ≡ k = cc in
          let b : t ≡ q = cc in
          rw (sym (same_palette 0) ∙ h, a, b)

  -- ---- taken

  pub record Got (pal : PaletteRead) (q : ℕ) : Type 0 where
    pub ok : PaletteOk call (pal_of count pal)
    pub found : palette_at call l 0 ≡ Value (pal_of count pal) q
    pub is : pal ≡ palette_read old (Value (pal_of count pal) q)
    pub size_most : pal.size ≤ 64
    pub colours_are : colours (pal_of count pal) ≡ pal.size

  taken : (x : Palette) (q : ℕ) → PaletteOk call x → pal_of count (palette_read old (Value x q)) ≡ x
  unfolding palette_read
  taken x q ok =
      let k : length (chosen x.flags old) ≡ trues x.flags = length-chosen x.flags old ok.flags in
      let w : length (chosen x.flags old ++ x.fresh) ≡ colours x = omega (arith, length-append (chosen x.flags old) x.fresh) in
      let d : length (chosen x.flags old) ≡ colours x - length x.fresh = omega arith in
      rw (
        padded-take 128 false x.flags count (ok.flags ∙ n),
        padded-take 64 no_color (chosen x.flags old ++ x.fresh) (colours x) w,
        drop_at (chosen x.flags old) x.fresh (colours x - length x.fresh) d,
      )

  pub palette_got : (pal : PaletteRead) (q : ℕ) → CallOk call → pal ≡ palette_read old (palette_at (lent 64 format luma chroma old) l 0) → pal.next ≡ Value tt q → Got pal q
  unfolding palette_read blank_read
  palette_got pal q ok e g = of (palette_at (lent 64 format luma chroma old) l 0) refl
    where
      of : (a : Answer Palette) → palette_at (lent 64 format luma chroma old) l 0 ≡ a → Got pal q
      of (Value x t) h =
          let v : pal ≡ palette_read old (Value x t) = e ∙ ap (palette_read old) h in
          let z : Value tt t ≡ Value tt q = sym (ap (λ (y : PaletteRead). y.next) v) ∙ g in
          let b : t ≡ q = cc in
          let f : palette_at call l 0 ≡ Value x t = sym (same_palette 0) ∙ h in
          let k : PaletteOk call x = ((palette_code call ok).back l 0 t x f).1 in
          let y : pal_of count pal ≡ x = ap (pal_of count) v ∙ taken x t k in
          let s : pal.size ≡ colours x = ap (λ (r : PaletteRead). r.size) v in
          record {
            ok = subst (PaletteOk call) (sym y) k;
            found = f ∙ rw (y, b);
            is = v ∙ (ap (λ (w : Palette). palette_read old (Value w t)) (sym y) ∙ ap (λ (u : ℕ). palette_read old (Value (pal_of count pal) u)) b);
            size_most = omega (arith, k.limit);
            colours_are = ap colours y ∙ sym s;
          }
      of (Refused m t) h =
          let z : Refused m t ≡ Value tt q = sym (ap (λ (y : PaletteRead). y.next) (e ∙ ap (palette_read old) h)) ∙ g in
          let o : ◌≡◌ {A = ℕ} 0 1 = cc in
          absurd (omega arith)

  -- ---- the whole

  whole : (pal : PaletteRead) (x : Palette) (q : ℕ) → PaletteOk call x → palette_at call l 0 ≡ Value x q → pal ≡ palette_read old (Value x q) → made_of bare count pal (rest_at bare x l q) ≡ answer_of call (read_block call l 0)
  unfolding read_block sent_at rest_at levels_to made_of made_with answer_of cu_read told_by palette_read
  whole pal x q ok at is = rw at (go (map_at size (size * size) (max_index x) x.escape l q))
    where
      sums : length (chosen x.flags old ++ x.fresh) ≡ colours x
      sums = omega (arith, length-append (chosen x.flags old) x.fresh, length-chosen x.flags old ok.flags)

      go₂ : (m : Map) (b : Answer Levels) → made_of bare count pal (onward b (λ v t. Value (m, v) t)) ≡ answer_of call (onward (onward b (λ v t. Value (record { palette = x; map = m; levels = v }) t)) (λ s u. Value (told_by call s) u))
      go₂ m (Value v t) = rw (is, sums, ok.flags ∙ n)
      go₂ m (Refused k t) = refl

      go : (a : Answer Map) → made_of bare count pal (onward a (λ m r. onward (levels_at bare x m.turned (cells_of size (size * size) (max_index x) m) l r) (λ v t. Value (m, v) t))) ≡ answer_of call (onward (onward a (λ m r. onward (levels_at call x m.turned (cells_of size (size * size) (max_index x) m) l r) (λ v t. Value (record { palette = x; map = m; levels = v }) t))) (λ s u. Value (told_by call s) u))
      go (Value m r) = rw (same-levels x m.turned (cells_of size (size * size) (max_index x) m) r) (go₂ m (levels_at call x m.turned (cells_of size (size * size) (max_index x) m) l r))
      go (Refused k r) = refl

  pub palette_on : (pal : PaletteRead) (q : ℕ) → Got pal q → made_of bare count pal (rest_at bare (pal_of count pal) l q) ≡ answer_of call (read_block call l 0)
  palette_on pal q g = whole pal (pal_of count pal) q g.ok g.found g.is
