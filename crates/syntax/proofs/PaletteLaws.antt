-- Both laws of the palette: signalled count, new entries, escape flag, and the whole of them after the reuse runs.
use Rattle.std.specs.Prelude.{◌≡◌, refl, Bool, false, List, [], ◌∷◌, ◌++◌, ℕ, zero, suc, ◌+◌, ◌*◌, ◌-◌, ◌^◌, ◌≤◌, ◌<◌, ltb, leb, eqb, replicate}
use Rattle.std.proofs.Common.{ap, sym, ◌∙◌, arith}
use Rattle.std.proofs.Math.Bool.{true}
use Rattle.std.proofs.Math.ListN.{length}
use Rattle.std.proofs.lemmas.List.{length-replicate}
use borrow.Author.Tests.{lt-ltb, le-ltb, ltb-true, ltb-false, eqb-true, eqb-false, eq-eqb, ne_eqb}
use Rattle.base.specs.Pick.{either}
use Rattle.base.specs.Answer.{Value, went, same-value, same_place}
use Rattle.base.specs.Stands.{Stands, join, split, Code}
use Rattle.base.specs.Codes.{when_at, when_bins, When, when_code, each_at, each_bins, Each, All, each_code}
use Rattle.h265.specs.Strings.{bin_of, bits, egk}
use Rattle.h265.specs.Parse.{bin_at, bits_at, egk_at}
use Rattle.h265.specs.BitLaws.{bits_code, bin_code}
use Rattle.h265.specs.EgkLaws.{egk_code, held_code}
use Rattle.h265.specs.Reuse.{trues, reuse_bins, reuse_at}
use Rattle.h265.specs.ReuseLaws.{ReuseOk}
use Rattle.h265.proofs.ReuseLaws.{reuse_code}
use Rattle.syntax.specs.Block.{Entry, Call, Palette, colours, chroma_depth, column, entries, signalled_bins, signalled_at, entries_bins, entries_at, palette_bins, palette_at}
use Rattle.syntax.specs.PaletteLaws.{CallOk, EntriesOk, Fits, PaletteOk}

-- ---- signalled count

signalled_there : (limit reused : ℕ) → limit ≤ 65535 → (l : List ℕ) (p q v : ℕ) → v ≤ limit - reused → Stands l p (signalled_bins limit reused v) q → signalled_at limit reused l p ≡ Value v q
unfolding signalled_bins signalled_at
signalled_there limit reused small l p q v h s =
    (when_code (ltb reused limit) 0 (held_code (egk_at 0) (egk 0) (limit - reused) (egk_code 0))).there l p q v
    (record { sent = λ z. (omega arith, h); unsent = λ z. omega (arith, ltb-false reused limit z) }) s

signalled_back : (limit reused : ℕ) (l : List ℕ) (p q v : ℕ) → signalled_at limit reused l p ≡ Value v q → Stands l p (signalled_bins limit reused v) q × (v ≤ limit - reused)
unfolding signalled_bins signalled_at
signalled_back limit reused l p q v e =
    let b = (when_code (ltb reused limit) 0 (held_code (egk_at 0) (egk 0) (limit - reused) (egk_code 0))).back l p q v e in
    (b.0, either (ltb reused limit) (λ t. (b.1.sent t).1) (λ t. omega (arith, b.1.unsent t)))

pub signalled_code : (limit reused : ℕ) → limit ≤ 65535 → Code (signalled_at limit reused) (signalled_bins limit reused) (λ v. v ≤ limit - reused)
signalled_code limit reused small = record { there = signalled_there limit reused small; back = signalled_back limit reused }

abbrev Below : ℕ → ℕ → Type 0
Below d v = v < 2 ^ d

column-each : (f : Entry → ℕ) (d new : ℕ) (es : List Entry) → length es ≡ new → All (λ e. f e < 2 ^ d) es → Each Below (replicate new d) (column f es)
unfolding column
column-each f d zero [] n h = tt
column-each f d (suc new) [] n h = absurd (omega arith)
column-each f d zero (e ∷ es) n h = absurd (omega arith)
column-each f d (suc new) (e ∷ es) n h = (h.0, column-each f d new es (omega arith) h.1)

all_map : {X : Type 0} {P Q : X → Type 0} (xs : List X) → ((x : X) → P x → Q x) → All P xs → All Q xs
all_map [] f h = tt
all_map (x ∷ xs) f h = (f x h.0, all_map xs f h.1)

entries-columns : (es : List Entry) → entries (column (λ e. e.y) es) (column (λ e. e.cb) es) (column (λ e. e.cr) es) ≡ es
unfolding entries column
entries-columns [] = refl
entries-columns (e ∷ es) = ap (λ (x : List Entry). e ∷ x) (entries-columns es)

record Columns (c : Call) (new : ℕ) (ys us vs : List ℕ) (es : List Entry) : Type 0 where
  y : column (λ e. e.y) es ≡ ys
  cb : column (λ e. e.cb) es ≡ us
  cr : column (λ e. e.cr) es ≡ vs
  count : length es ≡ new
  fits : All (Fits c) es

columns-entries : (c : Call) (new : ℕ) (ys us vs : List ℕ) → Each Below (replicate new c.luma) ys → Each Below (replicate new (chroma_depth c)) us → Each Below (replicate new (chroma_depth c)) vs → Columns c new ys us vs (entries ys us vs)
unfolding entries column
columns-entries c zero [] [] [] a b d = record { y = refl; cb = refl; cr = refl; count = refl; fits = tt }
columns-entries c zero (y ∷ ys) us vs a b d = absurd a
columns-entries c zero [] (u ∷ us) vs a b d = absurd b
columns-entries c zero [] [] (v ∷ vs) a b d = absurd d
columns-entries c (suc new) [] us vs a b d = absurd a
columns-entries c (suc new) (y ∷ ys) [] vs a b d = absurd b
columns-entries c (suc new) (y ∷ ys) (u ∷ us) [] a b d = absurd d
columns-entries c (suc new) (y ∷ ys) (u ∷ us) (v ∷ vs) a b d =
    let r = columns-entries c new ys us vs a.1 b.1 d.1 in
    record {
      y = ap (λ (x : List ℕ). y ∷ x) r.y;
      cb = ap (λ (x : List ℕ). u ∷ x) r.cb;
      cr = ap (λ (x : List ℕ). v ∷ x) r.cr;
      count = ap suc r.count;
      fits = (record { y = a.0; cb = b.0; cr = d.0 }, r.fits);
    }

all-good : (xs : List ℕ) → All (λ (x : ℕ). Unit {0}) xs
all-good [] = tt
all-good (x ∷ xs) = (tt, all-good xs)

pub bits_each : (xs : List ℕ) → Code (each_at bits_at xs) (each_bins bits xs) (Each Below xs)
bits_each xs = each_code bits_at bits (λ x. Unit {0}) Below (λ d u. bits_code d) xs (all-good xs)

entries-there : (c : Call) (new : ℕ) (l : List ℕ) (p q : ℕ) (es : List Entry) → EntriesOk c new es → Stands l p (entries_bins c new es) q → entries_at c new l p ≡ Value es q
unfolding entries_bins entries_at
entries-there c new l p q es ok s =
    let ys = each_bins bits (replicate new c.luma) (column (λ e. e.y) es) in
    let us = each_bins bits (replicate new (chroma_depth c)) (column (λ e. e.cb) es) in
    let vs = each_bins bits (replicate new (chroma_depth c)) (column (λ e. e.cr) es) in
    let a = split ys (us ++ vs) s in
    let b = split us vs a.second in
    rw (
      (bits_each (replicate new c.luma)).there l p a.mid (column (λ e. e.y) es) (column-each (λ e. e.y) c.luma new es ok.count (all_map es (λ x f. f.y) ok.fits)) a.first,
      (bits_each (replicate new (chroma_depth c))).there l a.mid b.mid (column (λ e. e.cb) es) (column-each (λ e. e.cb) (chroma_depth c) new es ok.count (all_map es (λ x f. f.cb) ok.fits)) b.first,
      (bits_each (replicate new (chroma_depth c))).there l b.mid q (column (λ e. e.cr) es) (column-each (λ e. e.cr) (chroma_depth c) new es ok.count (all_map es (λ x f. f.cr) ok.fits)) b.second,
      entries-columns es,
    )

entries-back : (c : Call) (new : ℕ) (l : List ℕ) (p q : ℕ) (es : List Entry) → entries_at c new l p ≡ Value es q → Stands l p (entries_bins c new es) q × EntriesOk c new es
unfolding entries_bins entries_at
entries-back c new l p q es e =
    went (each_at bits_at (replicate new c.luma) l p) _ e (λ ys m ey e₁.
    went (each_at bits_at (replicate new (chroma_depth c)) l m) _ e₁ (λ us r eu e₂.
    went (each_at bits_at (replicate new (chroma_depth c)) l r) _ e₂ (λ vs t ev e₃.
    let a = (bits_each (replicate new c.luma)).back l p m ys ey in
    let b = (bits_each (replicate new (chroma_depth c))).back l m r us eu in
    let d = (bits_each (replicate new (chroma_depth c))).back l r t vs ev in
    let k = columns-entries c new ys us vs a.1 b.1 d.1 in
    rw (← same-value e₃, ← same_place e₃)
    (rw (k.y, k.cb, k.cr) (join a.0 (join b.0 d.0)), record { count = k.count; fits = k.fits }))))

pub entries_code : (c : Call) (new : ℕ) → Code (entries_at c new) (entries_bins c new) (EntriesOk c new)
entries_code c new = record { there = entries-there c new; back = entries-back c new }

module _ (c : Call) (ok : CallOk c) where
  palette_there : (l : List ℕ) (p q : ℕ) (x : Palette) → PaletteOk c x → Stands l p (palette_bins c x) q → palette_at c l p ≡ Value x q
  unfolding palette_bins palette_at
  palette_there l p q x h s =
      let a = split (reuse_bins c.limit x.flags) (signalled_bins c.limit (trues x.flags) (length x.fresh) ++ (entries_bins c (length x.fresh) x.fresh ++ when_bins (ltb 0 (colours x)) (bin_of 0) x.escape)) s in
      let b = split (signalled_bins c.limit (trues x.flags) (length x.fresh)) (entries_bins c (length x.fresh) x.fresh ++ when_bins (ltb 0 (colours x)) (bin_of 0) x.escape) a.second in
      let d = split (entries_bins c (length x.fresh) x.fresh) (when_bins (ltb 0 (colours x)) (bin_of 0) x.escape) b.second in
      rw (
        (reuse_code c.limit (length c.predictor) (omega (arith, ok.predictor))).there l p a.mid x.flags (record { count = h.flags; fits = omega (arith, h.limit) }) a.first,
        (signalled_code c.limit (trues x.flags) (omega (arith, ok.limit))).there l a.mid b.mid (length x.fresh) (omega (arith, h.limit)) b.first,
        (entries_code c (length x.fresh)).there l b.mid d.mid x.fresh (record { count = refl; fits = h.fits }) d.first,
        (when_code (ltb 0 (colours x)) true (bin_code 0)).there l d.mid q x.escape (record { sent = λ z. tt; unsent = λ z. h.escape (omega (arith, ltb-false 0 (colours x) z)) }) d.second,
      )

  palette_join : (l : List ℕ) (p m r t u : ℕ) (fs : List Bool) (new : ℕ) (es : List Entry) (b : Bool) →
      Stands l p (reuse_bins c.limit fs) m × ReuseOk c.limit (length c.predictor) fs →
      Stands l m (signalled_bins c.limit (trues fs) new) r × (new ≤ c.limit - trues fs) →
      Stands l r (entries_bins c new es) t × EntriesOk c new es →
      Stands l t (when_bins (ltb 0 (trues fs + new)) (bin_of 0) b) u × When (ltb 0 (trues fs + new)) true (λ (b : Bool). Unit {0}) b →
      Stands l p (palette_bins c (record { flags = fs; fresh = es; escape = b })) u × PaletteOk c (record { flags = fs; fresh = es; escape = b })
  unfolding palette_bins
  palette_join l p m r t u fs new es b a n e w =
      let z : length es ≡ new = e.1.count in
      let o : trues fs ≤ c.limit = a.1.fits in (
        rw z (join a.0 (join n.0 (join e.0 w.0))),
        record {
          flags = a.1.count;
          limit = omega (arith, n.1);
          fits = e.1.fits;
          escape = λ y. w.1.unsent (le-ltb 0 (trues fs + new) (omega arith));
        },
      )

  palette_back : (l : List ℕ) (p q : ℕ) (x : Palette) → palette_at c l p ≡ Value x q → Stands l p (palette_bins c x) q × PaletteOk c x
  unfolding palette_at
  palette_back l p q x e =
      went (reuse_at c.limit (length c.predictor) l p) _ e (λ fs m ef e₁.
      went (signalled_at c.limit (trues fs) l m) _ e₁ (λ new r en e₂.
      went (entries_at c new l r) _ e₂ (λ es t ee e₃.
      went (when_at (ltb 0 (trues fs + new)) true (bin_at 0) l t) _ e₃ (λ b u eb e₄.
      let g = palette_join l p m r t u fs new es b
      ((reuse_code c.limit (length c.predictor) (omega (arith, ok.predictor))).back l p m fs ef)
      ((signalled_code c.limit (trues fs) (omega (arith, ok.limit))).back l m r new en)
      ((entries_code c new).back l r t es ee)
      ((when_code (ltb 0 (trues fs + new)) true (bin_code 0)).back l t u b eb) in
      rw (← same-value e₄, ← same_place e₄) g))))

  pub palette_code : Code (palette_at c) (palette_bins c) (PaletteOk c)
  palette_code = record { there = palette_there; back = palette_back }
