-- The reader's stages as the code has them, and that they are the definition's.
use Rattle.std.specs.Prelude.{◌≡◌, Bool, ℕ, zero, suc, ◌+◌, ◌-◌, ◌≤◌, ◌<◌, ltb, length, take, drop, get_or, set, replicate}
use Rattle.std.proofs.Math.Path.{refl}
use Rattle.std.proofs.Common.{ap, sym, ◌∙◌, add-one, length-take-le, lt-ltb, ltb-true}
use Rattle.std.proofs.Math.Bool.{false}
use mathlib.Core.List.{List, [], ◌∷◌, ◌++◌}
use native.Mathlib.Omega.{arith}
use Rattle.std.proofs.Math.ListN.{length-replicate, replicate-append-replicate}
use Rattle.base.specs.Answer.{Answer, Value, Refused, onward}
use Rattle.base.specs.Codes.{Each, All}
use Rattle.base.specs.Counted as C
use Rattle.base.specs.Lists.{padded, padded-is}
use Rattle.base.specs.Pick.{either}
use Rattle.getescapes.specs.Read.{levels, all_at, all_are}
use Rattle.getmap.specs.declared.MapRead.{MapRead}
use Rattle.getpalette.specs.Read.{PaletteRead, placed_at}
use Rattle.getpalette.specs.declared.PaletteRead as P
use Rattle.h265.specs.Strings.{bit}
use Rattle.model.specs.Whole.{no_levels}
use Rattle.model.specs.declared.Levels as D
use Rattle.replay.specs.Into.{Short}
use Rattle.syntax.specs.Block.{Call, Palette, Map, Levels, colours, max_index, cells_in, cells_of, alphabets, map_at, levels_at}
use Rattle.syntax.specs.KeepLaws.{sent_above, sent_index}
use Rattle.syntax.specs.MapLaws.{Under, CodedOk, MapOk}
use Rattle.syntax.specs.Records.{no_run}
use Rattle.syntax.specs.Replay.{replay}
use Rattle.syntax.proofs.ReplayLaws.{length-replay}
use Rattle.syntax.specs.Runs.{Run, Keeps, sent_of}
use Rattle.readblock.specs.Read.{BlockRead, zip_levels, refused_of}

-- the palette and the map that were read
abbrev pub pal_of : ℕ → PaletteRead → Palette
pal_of count r = record { flags = take count r.flags; fresh = drop (r.size - r.new) (take r.size r.palette); escape = r.escape }

abbrev pub map_of : MapRead → Map
map_of r = record { turned = r.turned; runs = take r.count r.runs }

abbrev pub top_of : PaletteRead → ℕ
top_of r = r.size + bit r.escape - 1

-- what follows the index map, and what follows the palette
unfoldable pub levels_to : Call → Palette → Map → List ℕ → ℕ → Answer (Map × Levels)
levels_to c x m l p = onward (levels_at c x m.turned (cells_of c.size (cells_in c) (max_index x) m) l p) (λ v t. Value (m, v) t)

unfoldable pub rest_at : Call → Palette → List ℕ → ℕ → Answer (Map × Levels)
rest_at c x l p = onward (map_at c.size (cells_in c) (max_index x) x.escape l p) (λ m r. levels_to c x m l r)

unfoldable pub made_with : Call → ℕ → PaletteRead → Bool → List ℕ → List D.Levels → List Run → ℕ → ℕ → BlockRead
made_with c count pal turned cells escapes runs k used = record {
  refusal = 0;
  place = 0;
  cu = record {
    size = c.size;
    chroma_idc = c.format;
    bd_luma = c.luma;
    bd_chroma = c.chroma;
    lossless = c.lossless;
    palette = pal.palette;
    palette_size = pal.size;
    reused = pal.flags;
    pred_size = count;
    num_signaled = pal.new;
    escape_present = pal.escape;
    transpose = turned;
    indices = cells;
    escapes = escapes;
    sse = 0;
    tolerance = 0;
  };
  runs = runs;
  count = k;
  used = used;
}

unfoldable pub made_of : Call → ℕ → PaletteRead → Answer (Map × Levels) → BlockRead
made_of c count pal (Value (m, v) t) =
    made_with c count pal m.turned
    (padded 1024 0 (cells_of c.size (cells_in c) (top_of pal) m))
    (padded 1024 no_levels (zip_levels v.y v.cb v.cr))
    (padded 1024 no_run m.runs) (length m.runs) t
made_of c count pal (Refused k q) = refused_of k q

-- the palette's place is no part of it
pub made_placed : (c : Call) (count : ℕ) (r : P.PaletteRead) (p q : ℕ) (a : Answer (Map × Levels)) → made_of c count (placed_at r p) a ≡ made_of c count (placed_at r q) a
unfolding made_of made_with
made_placed c count r p q (Value (m, v) t) = refl
made_placed c count r p q (Refused k t) = refl

-- ---- the levels of each cell

zip_snoc : (ys us vs : List ℕ) (i : ℕ) → i < length ys → i < length us → i < length vs →
    zip_levels (take (suc i) ys) (take (suc i) us) (take (suc i) vs) ≡ zip_levels (take i ys) (take i us) (take i vs) ++ (record { y = get_or ys i 0; cb = get_or us i 0; cr = get_or vs i 0 } ∷ [])
unfolding zip_levels
zip_snoc [] us vs i a b c = absurd (omega arith)
zip_snoc (y ∷ ys) [] vs i a b c = absurd (omega arith)
zip_snoc (y ∷ ys) (u ∷ us) [] i a b c = absurd (omega arith)
zip_snoc (y ∷ ys) (u ∷ us) (v ∷ vs) zero a b c = refl
zip_snoc (y ∷ ys) (u ∷ us) (v ∷ vs) (suc i) a b c = ap (λ (x : List D.Levels). record { y = y; cb = u; cr = v } ∷ x) (zip_snoc ys us vs i (omega arith) (omega arith) (omega arith))

pub zip-none : (ys us vs : List ℕ) → [] ≡ zip_levels (take 0 ys) (take 0 us) (take 0 vs)
unfolding zip_levels
zip-none ys us vs = refl

pub zip-next : (ys us vs : List ℕ) (out : List D.Levels) (i : ℕ) → i < length ys → i < length us → i < length vs → i < length out →
    take i out ≡ zip_levels (take i ys) (take i us) (take i vs) →
    take (i + 1) (set out i (record { y = get_or ys i 0; cb = get_or us i 0; cr = get_or vs i 0 })) ≡ zip_levels (take (i + 1) ys) (take (i + 1) us) (take (i + 1) vs)
zip-next ys us vs out i a b c o h = rw (C.push out i (record { y = get_or ys i 0; cb = get_or us i 0; cr = get_or vs i 0 }) o, h, add-one i, zip_snoc ys us vs i a b c)

pub zip_end : (out w : List D.Levels) (n : ℕ) → n ≤ 1024 → length out ≡ 1024 → take n out ≡ w → drop n out ≡ drop n (replicate 1024 no_levels) → out ≡ padded 1024 no_levels w
zip_end out w n o k e d = padded-is no_levels out w n 1024 e d (sym (length-take-le n out (omega arith)) ∙ ap length e)

-- ---- the cells

module _ (size n m : ℕ) (turned : Bool) (rs : List Run) where
  abbrev the_map : Map
  the_map = record { turned = turned; runs = rs }

  pub cells-none : m ≡ 0 → n ≤ 1024 → replicate 1024 0 ≡ padded 1024 0 (cells_of size n m the_map)
  unfolding cells_of
  cells-none e h =
      let z : n + (1024 - n) ≡ 1024 = omega arith in
      rw (e, length-replicate {A = ℕ} n 0, replicate-append-replicate {A = ℕ} n (1024 - n) 0, z)

  pub cells-some : 1 ≤ m → replay size false [] rs ≡ cells_of size n m the_map
  unfolding cells_of
  cells-some h = rw (lt-ltb 0 m h)

  pub cells-length : MapOk size n m the_map → length (cells_of size n m the_map) ≡ n
  unfolding cells_of
  cells-length ok =
      either (ltb 0 m)
      (λ t. rw t (length-replay size n 0 false [] rs refl (ok.coded (ltb-true 0 m t)).keeps))
      (λ t. rw t (length-replicate {A = ℕ} n 0))

under-short : (m k : ℕ) (is : List ℕ) → m ≤ 64 → Each Under (replicate k m) is → All (λ v. v < 255) is
under-short m zero [] h e = tt
under-short m zero (i ∷ is) h e = absurd e
under-short m (suc k) [] h e = absurd e
under-short m (suc k) (i ∷ is) h e = (omega (arith, e.0), under-short m k is h e.1)

under_all : (m k : ℕ) (is : List ℕ) → m ≤ 64 → Each Under (alphabets m k) is → All (λ v. v < 255) is
under_all m k [] h e = absurd e
under_all m k (i ∷ is) h e = (omega (arith, e.0), under-short m k is h e.1)

runs-short : (size n scan : ℕ) (prev : Bool) (rs : List Run) → Keeps size n scan prev rs → All (λ v. v < 255) (sent_of rs) → All Short rs
runs-short size n scan prev [] k a = tt
runs-short size n scan prev (r ∷ rs) k a =
    either r.above
    (λ t. (omega (arith, k.0.none t), runs-short size n (scan + r.more + 1) r.above rs k.1 (rw (sent_above r rs t) at a)))
    (λ t. let b = rw (sent_index r rs t) at a in (b.0, runs-short size n (scan + r.more + 1) r.above rs k.1 b.1))

pub coded_short : (size n m : ℕ) (turned : Bool) (rs : List Run) → m ≤ 64 → CodedOk size n m (record { turned = turned; runs = rs }) → All Short rs
coded_short size n m turned rs h ok = runs-short size n 0 false rs ok.keeps (under_all m (length (sent_of rs) - 1) (sent_of rs) h ok.each)

-- ---- the levels are the definition's

module _ (c : Call) (count : ℕ) (pal : PaletteRead) (m : Map) (l : List ℕ) (p : ℕ) (e : colours (pal_of count pal) ≡ pal.size) where
  levels-same : (cells : List ℕ) → cells_of c.size (cells_in c) (top_of pal) m ≡ cells → levels_to c (pal_of count pal) m l p ≡ onward (all_at pal.escape c.format c.size m.turned c.lossless c.luma c.chroma pal.size cells l p) (λ v t. Value (m, v) t)
  unfolding levels_to
  levels-same cells h = rw (e, h, all_are c (pal_of count pal) m.turned pal.size cells l p e)

  pub levels-refused : (cells : List ℕ) (k q : ℕ) → cells_of c.size (cells_in c) (top_of pal) m ≡ cells → all_at pal.escape c.format c.size m.turned c.lossless c.luma c.chroma pal.size cells l p ≡ Refused k q → refused_of k q ≡ made_of c count pal (levels_to c (pal_of count pal) m l p)
  unfolding made_of
  levels-refused cells k q h g = rw (levels-same cells h, g)

  pub levels-made : (cells : List ℕ) (ys us vs : List ℕ) (q : ℕ) (array : List ℕ) (escapes : List D.Levels) (runs : List Run) (k : ℕ) →
      cells_of c.size (cells_in c) (top_of pal) m ≡ cells →
      all_at pal.escape c.format c.size m.turned c.lossless c.luma c.chroma pal.size cells l p ≡ Value (levels ys us vs) q →
      array ≡ padded 1024 0 cells →
      escapes ≡ padded 1024 no_levels (zip_levels ys us vs) →
      runs ≡ padded 1024 no_run m.runs →
      length m.runs ≡ k →
      made_with c count pal m.turned array escapes runs k q ≡ made_of c count pal (levels_to c (pal_of count pal) m l p)
  unfolding made_of
  levels-made cells ys us vs q array escapes runs k h g a b d n = rw (levels-same cells h, g, h, a, b, d, n)

-- ---- the map

module _ (c : Call) (count : ℕ) (pal : PaletteRead) (l : List ℕ) (p : ℕ) (e : colours (pal_of count pal) ≡ pal.size) where
  pub map-refused : (k q : ℕ) → map_at c.size (cells_in c) (top_of pal) pal.escape l p ≡ Refused k q → refused_of k q ≡ made_of c count pal (rest_at c (pal_of count pal) l p)
  unfolding rest_at made_of
  map-refused k q h = rw (e, h)

  pub map_on : (m : Map) (q : ℕ) → map_at c.size (cells_in c) (top_of pal) pal.escape l p ≡ Value m q → made_of c count pal (levels_to c (pal_of count pal) m l q) ≡ made_of c count pal (rest_at c (pal_of count pal) l p)
  unfolding rest_at
  map_on m q h = rw (e, h)
