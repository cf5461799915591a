-- Demand 3: what is written of a block that holds together is read back. And request 14: what was read is whole, and is written as it was.
use Rattle.std.specs.Prelude.{◌≡◌, ◌≢◌, Bool, true, ltb, leb, eqb, take, drop, get_or, replicate}
use Rattle.std.proofs.Math.Path.{refl, ap, subst}
use Rattle.std.proofs.Common.{sym, ◌∙◌, zero-add, pow_pos, length-append, take-append-drop, take_at}
use Rattle.std.proofs.Math.Bool.{false}
use mathlib.Core.List.{List, [], ◌∷◌, ◌++◌, append_assoc}
use Prim.Native.Nat.{ℕ, zero, suc, ◌+◌, ◌*◌, ◌-◌, ◌^◌, ◌≤◌, ◌<◌}
use native.Mathlib.Omega.{arith}
use Rattle.std.proofs.Math.ListN.{length, length-replicate, length-drop}
use borrow.Author.Tests.{lt-ltb, le-ltb, ltb-true, ltb-false, eqb-true, eqb-false, eq-eqb, ne_eqb}
use Rattle.base.specs.Pick.{pick, either}
use Rattle.base.specs.Answer.{Value}
use Rattle.base.specs.Stands.{Stands}
use Rattle.base.specs.Pick.{true_false}
use Rattle.base.specs.Codes.{each_bins, Each, All}
use Rattle.h265.specs.Strings.{bit}
use Rattle.h265.specs.Reuse.{trues}
use Rattle.syntax.specs.Runs.{Run, sent_of, Keeps}
use Rattle.syntax.specs.Replay.{Replays, replay}
use Rattle.syntax.specs.ReplayLaws.{First, Alphabets}
use Rattle.syntax.proofs.ReplayLaws.{rules-replay, rules_keep, rules-alphabets, replay-rules, length-replay, replay-most}
use Rattle.syntax.specs.Block.{Entry, Call, Palette, Map, Block, Told, cells_in, colours, max_index, chroma_depth, palette_of, sent_of_told, cells_of, cells_sent, chroma_due, dues, luma_dues, chroma_dues, level_bins, levels_bins, map_bins, alphabets, chosen, block_bins, read_block}
use Rattle.syntax.specs.PaletteLaws.{Fits, CallOk}
use Rattle.syntax.specs.MapLaws.{Under, CodedOk, MapOk}
use Rattle.syntax.proofs.MapLaws.{first_sent}
use Rattle.syntax.specs.LevelLaws.{InLevel, LevelOk, LevelsOk}
use Rattle.syntax.specs.BlockLaws.{ToldOk}
use Rattle.syntax.proofs.BlockLaws.{some-cells, length-chosen, block_code}
use Rattle.syntax.specs.Whole.{top_index, Whole, Suits, Runs, keep_due, turned_of, read_back}
use Rattle.syntax.specs.WholeLaws.{Again}

-- ---- alphabets, said in two ways

each_all : (m : ℕ) (is : List ℕ) → All (λ v. v < m) is → Each Under (replicate (length is) m) is
each_all m [] h = tt
each_all m (i ∷ is) h = (h.0, each_all m is h.1)

all-each : (m k : ℕ) (is : List ℕ) → Each Under (replicate k m) is → All (λ v. v < m) is
all-each m zero [] h = tt
all-each m zero (i ∷ is) h = absurd h
all-each m (suc k) [] h = absurd h
all-each m (suc k) (i ∷ is) h = (h.0, all-each m k is h.1)

pub first-each : (m : ℕ) (is : List ℕ) → 1 ≤ length is → First m is → Each Under (alphabets m (length is - 1)) is
first-each m [] o h = absurd (omega arith)
first-each m (i ∷ is) o h = let e : suc (length is) - 1 ≡ length is = omega arith in rw e (h.0, each_all m is h.1)

each_first : (m k : ℕ) (is : List ℕ) → Each Under (alphabets m k) is → First m is
each_first m k [] h = tt
each_first m k (i ∷ is) h = (h.0, all-each m k is h.1)

-- ---- levels, kept where they are due

due_bins : (lossless : Bool) (depth : ℕ) (ds : List Bool) (vs : List ℕ) → each_bins (level_bins lossless depth) ds (keep_due ds vs) ≡ each_bins (level_bins lossless depth) ds vs
unfolding each_bins keep_due level_bins
due_bins lossless depth [] vs = refl
due_bins lossless depth (d ∷ ds) [] = refl
due_bins lossless depth (true ∷ ds) (v ∷ vs) = rw (due_bins lossless depth ds vs)
due_bins lossless depth (false ∷ ds) (v ∷ vs) = rw (due_bins lossless depth ds vs)

-- a level that is due stands at an escape cell, and where its component is in use (Used)
due_ok : (lossless : Bool) (from depth : ℕ) (Used : Type 0) (at : ℕ → Bool) → (Used → from ≡ depth) → ((i : ℕ) → at i ≡ true → Used) → (e i : ℕ) (xs vs : List ℕ) → Each (λ x v. x ≡ e → Used → InLevel lossless from v) xs vs → Each (LevelOk lossless depth) (dues at e i xs) (keep_due (dues at e i xs) vs)
unfolding dues keep_due
due_ok lossless from depth Used at d u e i [] [] h = tt
due_ok lossless from depth Used at d u e i [] (v ∷ vs) h = absurd h
due_ok lossless from depth Used at d u e i (x ∷ xs) [] h = absurd h
due_ok lossless from depth Used at d u e i (x ∷ xs) (v ∷ vs) h = (one (eqb x e) refl (at i) refl, due_ok lossless from depth Used at d u e (suc i) xs vs h.1)
  where
    one : (t : Bool) → eqb x e ≡ t → (b : Bool) → at i ≡ b → LevelOk lossless depth (pick t b false) (pick (pick t b false) v 0)
    one true t true b = record { sent = λ z. rw (d (u i b)) at (h.0 (eqb-true x e t) (u i b)); unsent = λ z. absurd (true_false z) }
    one true t false b = record { sent = λ z. absurd (true_false (sym z)); unsent = λ z. refl }
    one false t c b = record { sent = λ z. absurd (true_false (sym z)); unsent = λ z. refl }

each_map : {X A : Type 0} {P Q : X → A → Type 0} (xs : List X) (vs : List A) → ((x : X) (v : A) → P x v → Q x v) → Each P xs vs → Each Q xs vs
each_map [] [] f h = tt
each_map [] (v ∷ vs) f h = absurd h
each_map (x ∷ xs) [] f h = absurd h
each_map (x ∷ xs) (v ∷ vs) f h = (f x v h.0, each_map xs vs f h.1)

-- ---- numbers of the palette

all_drop : {X : Type 0} (P : X → Type 0) (k : ℕ) (xs : List X) → All P xs → All P (drop k xs)
all_drop P zero xs h = h
all_drop P (suc k) [] h = h
all_drop P (suc k) (x ∷ xs) h = all_drop P k xs h.1

sum-colours : (c : Call) (b : Block) → Whole c b → colours (palette_of b) ≡ length b.colours
sum-colours c b w = rw length-drop (omega (arith, w.sum))

all_zero : (n : ℕ) (xs : List ℕ) → length xs ≡ n → All (λ x. x ≤ 0) xs → xs ≡ replicate n 0
all_zero zero [] n h = refl
all_zero (suc k) [] n h = absurd (omega arith)
all_zero zero (x ∷ xs) n h = absurd (omega arith)
all_zero (suc k) (x ∷ xs) n h =
    let e : x ≡ 0 = omega (arith, h.0) in
    rw (e, all_zero k xs (omega arith) h.1)

-- ---- what is not sent makes no difference to the bins

map_same : (size n m : ℕ) (escape turned : Bool) (rs : List Run) → map_bins size n m escape (record { turned = turned; runs = rs }) ≡ map_bins size n m escape (record { turned = pick (ltb 0 m) turned false; runs = pick (ltb 0 m) rs [] })
unfolding map_bins
map_same size n m escape turned rs = either (ltb 0 m) (λ t. rw t) (λ t. rw t)

levels-same : (c : Call) (x : Palette) (turned turned' : Bool) (cells ys us vs : List ℕ) → chroma_dues c x turned cells ≡ chroma_dues c x turned' cells → levels_bins c x turned cells (record { y = ys; cb = us; cr = vs }) ≡ levels_bins c x turned' cells (record { y = keep_due (luma_dues x cells) ys; cb = keep_due (chroma_dues c x turned' cells) us; cr = keep_due (chroma_dues c x turned' cells) vs })
unfolding levels_bins
levels-same c x turned turned' cells ys us vs e =
    rw (e, due_bins c.lossless c.luma (luma_dues x cells) ys, due_bins c.lossless (chroma_depth c) (chroma_dues c x turned' cells) us, due_bins c.lossless (chroma_depth c) (chroma_dues c x turned' cells) vs)

-- ---- the parts of what is read back

map_ok : (size n m : ℕ) (turned : Bool) (rs : List Run) → 1 ≤ size → 1 ≤ n → (0 < m → Keeps size n 0 false rs × Alphabets m 0 (sent_of rs)) → MapOk size n m (record { turned = pick (ltb 0 m) turned false; runs = pick (ltb 0 m) rs [] })
map_ok size n m turned rs a b h = record {
  coded = λ o. rw (lt-ltb 0 m o) (record { keeps = (h o).0; each = first-each m (sent_of rs) (first_sent size n rs a b (h o).0).0 ((h o).1.first refl) });
  plain = λ e. rw (le-ltb 0 m (omega arith));
}

cells_ok : (size n m : ℕ) (turned : Bool) (rs : List Run) (xs : List ℕ) → 0 < size → length xs ≡ n → All (λ x. x ≤ m) xs → (0 < m → Replays size n m xs 0 false rs) → xs ≡ cells_of size n m (record { turned = turned; runs = pick (ltb 0 m) rs [] })
unfolding cells_of
cells_ok size n m turned rs xs z e a h =
    either (ltb 0 m)
    (λ t. rw t (sym (rules-replay size n m xs 0 false rs z e (h (ltb-true 0 m t)))))
    (λ t.
    let o : m ≡ 0 = omega (arith, ltb-false 0 m t) in
    rw t (all_zero n xs e (rw o at a)))

chroma-used : (c : Call) (turned : Bool) (i : ℕ) → chroma_due c turned i ≡ true → c.format ≢ 0
unfolding chroma_due
chroma-used c turned i e z = true_false (sym e ∙ rw (eq-eqb c.format 0 z))

pick-used : (b t : Bool) → pick b t false ≡ true → t ≡ true
pick-used true t e = e
pick-used false t e = absurd (true_false (sym e))

chroma-depth : (c : Call) → c.format ≢ 0 → c.chroma ≡ chroma_depth c
chroma-depth c h = rw (ne_eqb c.format 0 h)

module _ (c : Call) (b : Block) (rs : List Run) (call : CallOk c) (w : Whole c b) (u : Suits c b) (k : Runs c b rs) where
  top : max_index (palette_of b) ≡ top_index b
  top = rw (sum-colours c b w)

  levels_ok : LevelsOk c (palette_of b) (turned_of b) b.cells (read_back c b rs).block.levels
  unfolding read_back
  levels_ok = record {
    y = rw (sum-colours c b w) (due_ok c.lossless c.luma c.luma (Unit {0}) (λ i. b.escape) (λ z. refl) (λ i z. tt) (length b.colours) 0 b.cells b.levels.y (each_map b.cells b.levels.y (λ x v h e z. h e) w.y));
    cb = rw (sum-colours c b w) (due_ok c.lossless c.chroma (chroma_depth c) (c.format ≢ 0) (λ i. pick b.escape (chroma_due c (turned_of b) i) false) (chroma-depth c) (λ i z. chroma-used c (turned_of b) i (pick-used b.escape (chroma_due c (turned_of b) i) z)) (length b.colours) 0 b.cells b.levels.cb w.cb);
    cr = rw (sum-colours c b w) (due_ok c.lossless c.chroma (chroma_depth c) (c.format ≢ 0) (λ i. pick b.escape (chroma_due c (turned_of b) i) false) (chroma-depth c) (λ i z. chroma-used c (turned_of b) i (pick-used b.escape (chroma_due c (turned_of b) i) z)) (length b.colours) 0 b.cells b.levels.cr w.cr);
  }

  cells-back : b.cells ≡ cells_sent c (sent_of_told (read_back c b rs))
  unfolding read_back
  cells-back = rw (sum-colours c b w) (cells_ok c.size (cells_in c) (top_index b) (turned_of b) rs b.cells call.size w.count w.cells k)

  pub told-whole : ToldOk c (read_back c b rs)
  unfolding read_back
  told-whole =
      let o : trues b.flags ≤ length b.colours = omega (arith, w.sum) in
      record {
        sent = record {
          palette = record {
            flags = u.flags;
            limit = rw (sum-colours c b w) w.limit;
            fits = all_drop (Fits c) (trues b.flags) b.colours w.fits;
            escape = λ e. (w.empty (sym (sum-colours c b w) ∙ e)).0;
          };
          map = rw (sum-colours c b w) (map_ok c.size (cells_in c) (top_index b) b.transpose rs call.size (some-cells c.size call.size) (λ p. (rules_keep c.size (cells_in c) (top_index b) b.cells 0 false rs (k p), rules-alphabets c.size (cells_in c) (top_index b) b.cells 0 false rs call.size (k p))));
          levels = rw (← cells-back) levels_ok;
        };
        colours = rw (← u.colours) (sym (take-append-drop (trues b.flags) b.colours));
        signalled = rw length-drop (omega (arith, w.sum));
        cells = cells-back;
      }

  -- the transpose flag that is not sent makes no difference to the levels
  turned_same : chroma_dues c (palette_of b) b.transpose b.cells ≡ chroma_dues c (palette_of b) (turned_of b) b.cells
  turned_same =
      either (ltb 0 (top_index b))
      (λ t. rw t)
      (λ t. either b.escape
      (λ e.
      let z : length b.colours ≡ 0 = omega (arith, ltb-false 0 (top_index b) t, ap bit e) in
      rw (t, (w.empty z).1))
      (λ e. rw e))

  map_whole : map_bins c.size (cells_in c) (max_index (palette_of b)) b.escape (record { turned = b.transpose; runs = rs }) ≡ map_bins c.size (cells_in c) (max_index (palette_of b)) b.escape (record { turned = turned_of b; runs = pick (ltb 0 (top_index b)) rs [] })
  map_whole = rw top (map_same c.size (cells_in c) (top_index b) b.escape b.transpose rs)

  pub bins_whole : block_bins c b rs ≡ block_bins c (read_back c b rs).block (read_back c b rs).runs
  unfolding block_bins read_back
  bins_whole =
      rw (
        map_whole,
        levels-same c (palette_of b) b.transpose (turned_of b) b.cells b.levels.y b.levels.cb b.levels.cr turned_same,
      )

  -- DEMAND 3: the written bins, whatever stands after them, read back, and exactly they are used
  pub written_read : (rest : List ℕ) → read_block c (block_bins c b rs ++ rest) 0 ≡ Value (read_back c b rs) (length (block_bins c b rs))
  written_read rest =
      let s : Stands (block_bins c b rs ++ rest) 0 (block_bins c b rs) (length (block_bins c b rs)) = record { rest = rest; is = refl; next = sym (zero-add (length (block_bins c b rs))) } in
      (block_code c call).there (block_bins c b rs ++ rest) 0 (length (block_bins c b rs)) (read_back c b rs) told-whole (subst (λ (x : List ℕ). Stands (block_bins c b rs ++ rest) 0 x (length (block_bins c b rs))) bins_whole s)

-- ---- what was read is whole

due_back : (lossless : Bool) (depth : ℕ) (at : ℕ → Bool) (e i : ℕ) (xs vs : List ℕ) → Each (LevelOk lossless depth) (dues at e i xs) vs → Each (λ x v. x ≡ e → InLevel lossless depth v) xs vs
unfolding dues
due_back lossless depth at e i [] [] h = tt
due_back lossless depth at e i [] (v ∷ vs) h = absurd h
due_back lossless depth at e i (x ∷ xs) [] h = absurd h
due_back lossless depth at e i (x ∷ xs) (v ∷ vs) h = ((λ y. level lossless (pick (eqb x e) (at i) false) h.0), due_back lossless depth at e (suc i) xs vs h.1)
  where
    zero_in : (lossless : Bool) → v ≡ 0 → InLevel lossless depth v
    zero_in true z = omega (arith, pow_pos depth)
    zero_in false z = omega arith

    level : (lossless : Bool) (d : Bool) → LevelOk lossless depth d v → InLevel lossless depth v
    level lossless true o = o.sent refl
    level lossless false o = zero_in lossless (o.unsent refl)

all_append : {X : Type 0} (P : X → Type 0) (xs ys : List X) → All P xs → All P ys → All P (xs ++ ys)
all_append P [] ys a b = b
all_append P (x ∷ xs) ys a b = (a.0, all_append P xs ys a.1 b)

all-chosen : (P : Entry → Type 0) (fs : List Bool) (es : List Entry) → All P es → All P (chosen fs es)
unfolding chosen
all-chosen P [] es h = tt
all-chosen P (f ∷ fs) [] h = tt
all-chosen P (true ∷ fs) (e ∷ es) h = (h.0, all-chosen P fs es h.1)
all-chosen P (false ∷ fs) (e ∷ es) h = all-chosen P fs es h.1

module _ (c : Call) (call : CallOk c) (pred : All (Fits c) c.predictor) (t : Told) (ok : ToldOk c t) where
  the_flags : length (chosen t.block.flags c.predictor) ≡ trues t.block.flags
  the_flags = length-chosen t.block.flags c.predictor ok.sent.palette.flags

  sum_told : colours (palette_of t.block) ≡ length t.block.colours
  sum_told = sym (ap length ok.colours ∙ rw (length-append, the_flags))

  top-told : max_index (palette_of t.block) ≡ top_index t.block
  top-told = rw sum_told

  coded_told : 0 < top_index t.block → CodedOk c.size (cells_in c) (top_index t.block) (sent_of_told t).map
  coded_told o = rw sum_told at (ok.sent.map.coded (rw sum_told o))

  cells_told : t.block.cells ≡ cells_of c.size (cells_in c) (top_index t.block) (sent_of_told t).map
  cells_told = rw sum_told at ok.cells

  count-told : length t.block.cells ≡ cells_in c
  unfolding cells_of
  count-told =
      either (ltb 0 (top_index t.block))
      (λ y. ap length (rw y at cells_told) ∙ length-replay c.size (cells_in c) 0 false [] t.runs refl (coded_told (ltb-true 0 (top_index t.block) y)).keeps)
      (λ y. ap length (rw y at cells_told) ∙ length-replicate (cells_in c) 0)

  most-told : All (λ x. x ≤ top_index t.block) t.block.cells
  unfolding cells_of
  most-told =
      either (ltb 0 (top_index t.block))
      (λ y.
      let o : 0 < top_index t.block = ltb-true 0 (top_index t.block) y in
      let a : Alphabets (top_index t.block) 0 (sent_of t.runs) = record { first = λ e. each_first (top_index t.block) (length (sent_of t.runs) - 1) (sent_of t.runs) (coded_told o).each; later = λ e. absurd (omega arith) } in
      subst (λ (x : List ℕ). All (λ v. v ≤ top_index t.block) x) (sym (rw y at cells_told)) (replay-most c.size (cells_in c) (top_index t.block) 0 false [] t.runs call.size refl (coded_told o).keeps a tt))
      (λ y. subst (λ (x : List ℕ). All (λ v. v ≤ top_index t.block) x) (sym (rw y at cells_told)) (zeros (cells_in c) (top_index t.block)))
    where
      zeros : (n m : ℕ) → All (λ v. v ≤ m) (replicate n 0)
      zeros zero m = tt
      zeros (suc n) m = (omega arith, zeros n m)

  chroma-back : (vs : List ℕ) → Each (LevelOk c.lossless (chroma_depth c)) (chroma_dues c (palette_of t.block) t.block.transpose t.block.cells) vs → Each (λ x v. x ≡ length t.block.colours → c.format ≢ 0 → InLevel c.lossless c.chroma v) t.block.cells vs
  chroma-back vs h =
      each_map t.block.cells vs (λ x v g e f. subst (λ (d : ℕ). InLevel c.lossless d v) (sym (chroma-depth c f)) (g (e ∙ sym sum_told)))
      (due_back c.lossless (chroma_depth c) (λ i. pick t.block.escape (chroma_due c t.block.transpose i) false) (colours (palette_of t.block)) 0 t.block.cells vs h)

  unturned : length t.block.colours ≡ 0 → t.block.transpose ≡ false
  unturned z =
      let e : t.block.escape ≡ true = ok.sent.palette.escape (sum_told ∙ z) in
      let m : max_index (palette_of t.block) ≡ 0 = top-told ∙ omega (arith, ap bit e) in
      ap (λ (x : Map). x.turned) (ok.sent.map.plain m)

  pub whole-told : Whole c t.block
  whole-told =
      let v : LevelsOk c (palette_of t.block) t.block.transpose t.block.cells t.block.levels = rw (← ok.cells) at ok.sent.levels in
      record {
        limit = rw sum_told at ok.sent.palette.limit;
        flags = rw ok.sent.palette.flags call.predictor;
        sum = rw ok.signalled sum_told;
        fits = rw ok.colours (all_append (Fits c) (chosen t.block.flags c.predictor) (drop (trues t.block.flags) t.block.colours) (all-chosen (Fits c) t.block.flags c.predictor pred) ok.sent.palette.fits);
        count = count-told;
        cells = most-told;
        y = each_map t.block.cells t.block.levels.y (λ x v h e. h (e ∙ sym sum_told)) (due_back c.lossless c.luma (λ i. t.block.escape) (colours (palette_of t.block)) 0 t.block.cells t.block.levels.y v.y);
        cb = chroma-back t.block.levels.cb v.cb;
        cr = chroma-back t.block.levels.cr v.cr;
        empty = λ z. (ok.sent.palette.escape (sum_told ∙ z), unturned z);
      }

  pub suits-told : Suits c t.block
  suits-told = record {
    flags = ok.sent.palette.flags;
    colours = rw ok.colours (take_at (chosen t.block.flags c.predictor) (drop (trues t.block.flags) t.block.colours) (trues t.block.flags) the_flags);
  }

  pub runs_told : Runs c t.block t.runs
  unfolding cells_of
  runs_told o =
      let k = coded_told o in
      let y : t.block.cells ≡ replay c.size false [] t.runs = rw (lt-ltb 0 (top_index t.block) o) at cells_told in
      replay-rules c.size (cells_in c) (top_index t.block) t.block.cells 0 false t.runs call.size count-told k.keeps
      (record { first = λ e. each_first (top_index t.block) (length (sent_of t.runs) - 1) (sent_of t.runs) k.each; later = λ e. absurd (omega arith) })
      (sym y)

pub read_written : (c : Call) → CallOk c → All (Fits c) c.predictor → (l : List ℕ) (q : ℕ) (t : Told) → read_block c l 0 ≡ Value t q → Again c l q t
read_written c call pred l q t e =
    let b = (block_code c call).back l 0 q t e in
    let n : length (block_bins c t.block t.runs) ≡ q = omega (arith, b.0.next) in
    record {
      whole = whole-told c call pred t b.1;
      suits = suits-told c call pred t b.1;
      runs = runs_told c call pred t b.1;
      bins = sym (rw b.0.is (take_at (block_bins c t.block t.runs) b.0.rest q n));
      used = sym n;
    }

-- two lists that tell the same have the same used bins
pub same-used : (c : Call) → CallOk c → All (Fits c) c.predictor → (l l' : List ℕ) (q q' : ℕ) (t : Told) → read_block c l 0 ≡ Value t q → read_block c l' 0 ≡ Value t q' → take q l ≡ take q' l'
same-used c call pred l l' q q' t e e' = sym (read_written c call pred l q t e).bins ∙ (read_written c call pred l' q' t e').bins
