-- The reader's palette: what stands in its record for an answer of the definition, and the stages of the code.
use Rattle.std.specs.Prelude.{◌≡◌, Result, Ok, Err, Bool, true, ℕ, zero, suc, ◌+◌, ◌-◌, ◌≤◌, ◌<◌, ltb, drop, get_or, set, replicate}
use Rattle.std.proofs.Math.Path.{refl, ap, sym}
use Rattle.std.proofs.Common.{◌∙◌, add-one, arith, length-take-le}
use Rattle.std.proofs.Math.Bool.{false}
use mathlib.Core.List.{List, [], ◌∷◌, ◌++◌, append_assoc, append-nil}
use Rattle.std.proofs.Math.ListN.{length, take}
use Rattle.base.specs.Answer.{Answer, Value, Refused, onward}
use Rattle.base.specs.Codes.{when_at}
use Rattle.base.specs.Counted as C
use Rattle.base.specs.Lists.{padded, padded-is, padded-take, drop_more}
use Rattle.getentries.specs.Read.{lent}
use Rattle.h265.specs.Parse.{bin_at}
use Rattle.h265.specs.Reuse.{trues, reuse_at}
use Rattle.model.specs.Domain.{no_color}
use Rattle.syntax.specs.Block.{Entry, Call, Palette, colours, entries, chosen, signalled_at, entries_at, palette_at}
use Rattle.syntax.proofs.PaletteLaws.{signalled_code, entries_code}
use Rattle.refusal.specs.Refusal.{number_of}
use Rattle.refusal.specs.declared.Refused as E
use Rattle.getpalette.specs.declared.PaletteRead as D

-- the place after the palette, or a refusal; flags, signalled entries, entries and the escape flag
pub record PaletteRead : Type 0 where
  pub next : Answer (Unit {0})
  pub flags : List Bool
  pub new : ℕ
  pub size : ℕ
  pub palette : List Entry
  pub escape : Bool

-- a refusal stands beside a blank palette
unfoldable pub blank_read : ℕ → ℕ → PaletteRead
blank_read k q = record { next = Refused k q; flags = replicate 128 false; new = 0; size = 0; palette = replicate 64 no_color; escape = false }

-- `old` are the predictor's entries: those that are marked come first
unfoldable pub palette_read : List Entry → Answer Palette → PaletteRead
palette_read old (Value x q) = record {
  next = Value tt q;
  flags = padded 128 false x.flags;
  new = length x.fresh;
  size = colours x;
  palette = padded 64 no_color (chosen x.flags old ++ x.fresh);
  escape = x.escape;
}
palette_read old (Refused k q) = blank_read k q

-- the code's palette and the place after it
abbrev pub placed_at : D.PaletteRead → ℕ → PaletteRead
placed_at r q = record { next = Value tt q; flags = r.flags; new = r.new; size = r.size; palette = r.palette; escape = r.escape }

-- the code's answer as the definition's
abbrev pub as_palette : Result D.PaletteRead E.Refused → ℕ → PaletteRead
as_palette (Ok r) q = placed_at r q
as_palette (Err e) q = blank_read (number_of e.refusal) e.place

-- what follows the reuse runs
unfoldable pub fresh_at : Call → List Bool → List ℕ → ℕ → Answer Palette
fresh_at c fs l q =
    onward (signalled_at c.limit (trues fs) l q) (λ new r.
    onward (entries_at c new l r) (λ es t.
    onward (when_at (ltb 0 (trues fs + new)) true (bin_at 0) l t) (λ b u.
    Value (record { flags = fs; fresh = es; escape = b }) u)))

module _ (c : Call) (l : List ℕ) (p : ℕ) where
  pub reuse_refused : (k q : ℕ) → reuse_at c.limit (length c.predictor) l p ≡ Refused k q → Refused k q ≡ palette_at c l p
  unfolding palette_at
  reuse_refused k q h = rw h

  pub reuse_on : (fs : List Bool) (q : ℕ) → reuse_at c.limit (length c.predictor) l p ≡ Value fs q → fresh_at c fs l q ≡ palette_at c l p
  unfolding palette_at fresh_at
  reuse_on fs q h = rw h

module _ (limit format luma chroma : ℕ) (old : List Entry) (fs : List Bool) (reused : ℕ) (l : List ℕ) (p : ℕ) (s : reused ≡ trues fs) where
  abbrev call : Call
  call = lent limit format luma chroma old

  same_entries : (n q : ℕ) → entries_at call n l q ≡ entries_at (lent 0 format luma chroma []) n l q
  unfolding entries_at
  same_entries n q = refl

  pub signalled_refused : (k q : ℕ) → signalled_at limit reused l p ≡ Refused k q → blank_read k q ≡ palette_read old (fresh_at call fs l p)
  unfolding fresh_at palette_read
  signalled_refused k q h = rw (← s, h)

  module _ (new q : ℕ) (h : signalled_at limit reused l p ≡ Value new q) where
    pub new_most : limit ≤ 64 → new ≤ limit - reused
    new_most o = ((signalled_code limit reused (omega arith)).back l p q new h).1

    pub entries-refused : (k r : ℕ) → entries_at (lent 0 format luma chroma []) new l q ≡ Refused k r → blank_read k r ≡ palette_read old (fresh_at call fs l p)
    unfolding fresh_at palette_read
    entries-refused k r g = rw (← s, h, same_entries new q ∙ g)

    module _ (es : List Entry) (r : ℕ) (g : entries_at (lent 0 format luma chroma []) new l q ≡ Value es r) where
      pub escape_refused : (k t : ℕ) → when_at (ltb 0 (reused + new)) true (bin_at 0) l r ≡ Refused k t → blank_read k t ≡ palette_read old (fresh_at call fs l p)
      unfolding fresh_at palette_read
      escape_refused k t e = rw (← s, h, same_entries new q ∙ g, e)

      pub fresh-made : (b : Bool) (t : ℕ) (flags : List Bool) (first palette : List Entry) → when_at (ltb 0 (reused + new)) true (bin_at 0) l r ≡ Value b t →
          length (chosen fs old) ≡ trues fs →
          flags ≡ padded 128 false fs →
          first ≡ padded 64 no_color (chosen fs old) →
          palette ≡ padded 64 no_color (take reused first ++ es) →
          ◌≡◌ {A = PaletteRead} (record { next = Value tt t; flags = flags; new = new; size = reused + new; palette = palette; escape = b }) (palette_read old (fresh_at call fs l p))
      unfolding fresh_at palette_read
      fresh-made b t flags first palette e n f a w =
          let k : length (chosen fs old) ≡ reused = n ∙ sym s in
          let m : length es ≡ new = ((entries_code (lent 0 format luma chroma []) new).back l q r es g).1.count in
          let z : palette ≡ padded 64 no_color (chosen fs old ++ es) = w ∙ ap (λ (x : List Entry). padded 64 no_color (x ++ es)) (ap (take reused) a ∙ padded-take 64 no_color (chosen fs old) reused k) in
          rw (← s, h, same_entries new q ∙ g, e, m, f, z, ← s)

-- ---- the entries that are marked

module _ (flags : List Bool) (old : List Entry) (count : ℕ) (a : count ≤ length flags) (b : count ≤ length old) (i : ℕ) where
  pub marked-on : (k : ℕ) (out : List Entry) → i < count → k < length out → get_or flags i false ≡ true →
      take (k + 1) (set out k (get_or old i no_color)) ++ chosen (drop (i + 1) (take count flags)) (drop (i + 1) (take count old)) ≡ take k out ++ chosen (drop i (take count flags)) (drop i (take count old))
  unfolding chosen
  marked-on k out h o t =
      rw (C.read flags count i false h a, C.read old count i no_color h b, t, C.push out k (get_or old i no_color) o)
      (append_assoc (take k out) (get_or old i no_color ∷ []) (chosen (drop (i + 1) (take count flags)) (drop (i + 1) (take count old))))

  pub marked-off : i < count → get_or flags i false ≡ false → chosen (drop (i + 1) (take count flags)) (drop (i + 1) (take count old)) ≡ chosen (drop i (take count flags)) (drop i (take count old))
  unfolding chosen
  marked-off h t = rw (C.read flags count i false h a, C.read old count i no_color h b, t)

  pub marked-end : (k : ℕ) (out : List Entry) → count ≤ i → k ≤ 64 → length out ≡ 64 →
      take k out ++ chosen (drop i (take count flags)) (drop i (take count old)) ≡ chosen (take count flags) (take count old) →
      drop k out ≡ drop k (replicate 64 no_color) →
      out ≡ padded 64 no_color (chosen (take count flags) (take count old))
  unfolding chosen
  marked-end k out h o n e d =
      let w : take k out ≡ chosen (take count flags) (take count old) = sym (append-nil (take k out)) ∙ rw (C.end flags count i h a) at e in
      padded-is no_color out (chosen (take count flags) (take count old)) k 64 w d (sym (length-take-le k out (omega arith)) ∙ ap length w)

-- one more element, and blank past it
pub blank_push : {A : Type 0} (xs : List A) (m count : ℕ) (x r : A) → drop count xs ≡ drop count (replicate m x) → drop (count + 1) (set xs count r) ≡ drop (count + 1) (replicate m x)
blank_push xs m count x r h = rw (add-one count, below xs count r) (rw (← add-one count) (drop_more xs (replicate m x) count (count + 1) (omega arith) h))
  where
    below : {A : Type 0} (xs : List A) (i : ℕ) (v : A) → drop (suc i) (set xs i v) ≡ drop (suc i) xs
    below [] i v = refl
    below (x ∷ xs) zero v = refl
    below (x ∷ xs) (suc i) v = below xs i v

-- ---- the entries behind them

entries_snoc : (ys us vs : List ℕ) (i : ℕ) → i < length ys → i < length us → i < length vs →
    entries (take (suc i) ys) (take (suc i) us) (take (suc i) vs) ≡ entries (take i ys) (take i us) (take i vs) ++ (record { y = get_or ys i 0; cb = get_or us i 0; cr = get_or vs i 0 } ∷ [])
unfolding entries
entries_snoc [] us vs i a b c = absurd (omega arith)
entries_snoc (y ∷ ys) [] vs i a b c = absurd (omega arith)
entries_snoc (y ∷ ys) (u ∷ us) [] i a b c = absurd (omega arith)
entries_snoc (y ∷ ys) (u ∷ us) (v ∷ vs) zero a b c = refl
entries_snoc (y ∷ ys) (u ∷ us) (v ∷ vs) (suc i) a b c = ap (λ (x : List Entry). record { y = y; cb = u; cr = v } ∷ x) (entries_snoc ys us vs i (omega arith) (omega arith) (omega arith))

pub entries_none : (ys us vs : List ℕ) (w : List Entry) → w ++ entries (take 0 ys) (take 0 us) (take 0 vs) ≡ w
unfolding entries
entries_none ys us vs w = append-nil w

pub entries_next : (ys us vs : List ℕ) (w out : List Entry) (from i : ℕ) → i < length ys → i < length us → i < length vs → from + i < length out →
    take (from + i) out ≡ w ++ entries (take i ys) (take i us) (take i vs) →
    take (from + (i + 1)) (set out (from + i) (record { y = get_or ys i 0; cb = get_or us i 0; cr = get_or vs i 0 })) ≡ w ++ entries (take (i + 1) ys) (take (i + 1) us) (take (i + 1) vs)
entries_next ys us vs w out from i a b c o h =
    let e : Entry = record { y = get_or ys i 0; cb = get_or us i 0; cr = get_or vs i 0 } in
    let z : from + (i + 1) ≡ from + i + 1 = omega arith in
    rw (z, C.push out (from + i) e o, h, add-one i, entries_snoc ys us vs i a b c)
    (append_assoc w (entries (take i ys) (take i us) (take i vs)) (e ∷ []))

pub blank_next : (out : List Entry) (from i : ℕ) (e : Entry) → drop (from + i) out ≡ drop (from + i) (replicate 64 no_color) → drop (from + (i + 1)) (set out (from + i) e) ≡ drop (from + (i + 1)) (replicate 64 no_color)
blank_next out from i e h = let z : from + (i + 1) ≡ from + i + 1 = omega arith in rw z (blank_push out 64 (from + i) no_color e h)

pub entries-end : (out w : List Entry) (k : ℕ) → k ≤ 64 → length out ≡ 64 → take k out ≡ w → drop k out ≡ drop k (replicate 64 no_color) → out ≡ padded 64 no_color w
entries-end out w k o n e d = padded-is no_color out w k 64 e d (sym (length-take-le k out (omega arith)) ∙ ap length e)

-- flags past the first count are off
pub flags-padded : (flags : List Bool) (count : ℕ) → count ≤ length flags → flags ≡ take count flags ++ replicate (128 - count) false → flags ≡ padded 128 false (take count flags)
flags-padded flags count h e = rw (length-take-le count flags h) e
