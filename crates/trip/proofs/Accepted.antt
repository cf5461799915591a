-- What the reader accepts is what the writer writes: the block that it answers holds together and suits the predictor, its runs keep the rules, and their bins are exactly the bins used.
use Rattle.std.specs.Prelude.{Bool, not, ◌≢◌, ◌≡◌, ℕ, zero, suc, ◌+◌, ◌*◌, ◌-◌, ◌^◌, ◌≤◌, ◌<◌, ltb, leb, eqb, drop, replicate}
use Rattle.std.proofs.Math.Bool.{true, false}
use mathlib.Core.List.{List, [], ◌∷◌, ◌++◌, map}
use Rattle.std.proofs.Math.Path.{refl, ap, sym, subst}
use Rattle.std.proofs.Common.{◌∙◌, mul-le-mul, arith, length-take-le, get_or-take}
use Rattle.std.proofs.Math.ListN.{length, take, get_or}
use Rattle.std.proofs.lemmas.List.{take-append-le}
use borrow.Author.Tests.{le-leb, leb-true, eqb-true, eqb-false, eq-eqb, ltb-true, ltb-false}
use Rattle.base.specs.Alls.{all-at, all_by}
use Rattle.base.specs.Answer.{Answer, Value, Refused}
use Rattle.base.specs.Codes.{All, Each, each-length}
use Rattle.base.specs.Lists.{padded, padded-take, padded-read, padded-length}
use Rattle.base.specs.Pick.{pick, either}
use Rattle.base.specs.Refusals.{refused_not}
use Rattle.base.specs.Tests.{every, both, up_to, at_up_to, up_to-at, refusal}
use Rattle.h265.specs.Places.{Fair}
use Rattle.h265.specs.Reuse.{trues, flagged}
use Rattle.model.specs.Domain.{most, color_in, no_color, predictor_in, size_in}
use Rattle.model.specs.DomainLaws.{size_bounds}
use Rattle.model.specs.Whole.{max_index, block_size_in, format_holds, counts_hold, entries_hold, level_in, levels_in, no_levels, cell_holds, empty_holds, holds}
use Rattle.model.specs.declared.Color.{Color}
use Rattle.model.specs.declared.PaletteCu.{PaletteCu}
use Rattle.model.specs.declared.PalettePredictor.{PalettePredictor}
use Rattle.read.specs.Reading.{formats_in, sizes_in, read_refusal, read_answer, read_of, read_done}
use Rattle.readblock.specs.Read.{call_for, zip_levels, cu_read, refused_of, answer_of}
use Rattle.readblock.specs.Read.{BlockRead}
use Rattle.syntax.specs.Block.{Call, Told, palette_bins, entries_bins, levels_bins, chroma_due, block_bins, read_block}
use Rattle.syntax.specs.Block as B
use Rattle.syntax.specs.BlockPlaces.{fair_block}
use Rattle.syntax.specs.KeepLaws.{keeps-count}
use Rattle.syntax.specs.LevelLaws.{InLevel}
use Rattle.syntax.specs.PaletteLaws.{Fits, CallOk}
use Rattle.syntax.specs.Records.{no_run, block_of}
use Rattle.syntax.proofs.ReplayLaws.{rules_keep}
use Rattle.syntax.specs.Runs.{Run}
use Rattle.syntax.specs.Test.{rules-replays}
use Rattle.syntax.specs.Whole.{top_index}
use Rattle.syntax.specs.Whole as S
use Rattle.syntax.proofs.WholeLaws.{read_written}
use Rattle.write.specs.Laws.{runs_ignored, runs_tested}
use Rattle.write.specs.Write.{bins_of, runs_hold, write_of, list_after}
use Rattle.eyes.specs.Ready.{Arrays}
use Rattle.trip.specs.Levels.{zip_length, zip-at}
use Rattle.trip.specs.Suit.{chosen-flagged, color_fits}
use Rattle.trip.proofs.Written.{writes, lays}
use Rattle.trip.specs.Accepted.{Accepted}

-- ---- lists

each_at_lem : {X A : Type 0} (Ok : X → A → Type 0) (xs : List X) (vs : List A) (d : X) (e : A) → Each Ok xs vs → (i : ℕ) → i < length xs → Ok (get_or xs i d) (get_or vs i e)
each_at_lem Ok [] [] d e h i l = absurd (omega arith)
each_at_lem Ok [] (v ∷ vs) d e h i l = absurd h
each_at_lem Ok (x ∷ xs) [] d e h i l = absurd h
each_at_lem Ok (x ∷ xs) (v ∷ vs) d e h zero l = h.0
each_at_lem Ok (x ∷ xs) (v ∷ vs) d e h (suc i) l = each_at_lem Ok xs vs d e h.1 i (omega arith)

module _ where
  zip_y : (ys us vs : List ℕ) → length us ≡ length ys → length vs ≡ length ys → map (λ v. v.y) (zip_levels ys us vs) ≡ ys
  unfolding zip_levels
  zip_y [] us vs a b = refl
  zip_y (y ∷ ys) [] vs a b = absurd (omega arith)
  zip_y (y ∷ ys) (u ∷ us) [] a b = absurd (omega arith)
  zip_y (y ∷ ys) (u ∷ us) (v ∷ vs) a b = ap (λ (z : List ℕ). y ∷ z) (zip_y ys us vs (omega arith) (omega arith))

  zip_cb : (ys us vs : List ℕ) → length us ≡ length ys → length vs ≡ length ys → map (λ v. v.cb) (zip_levels ys us vs) ≡ us
  unfolding zip_levels
  zip_cb [] [] vs a b = refl
  zip_cb [] (u ∷ us) vs a b = absurd (omega arith)
  zip_cb (y ∷ ys) [] vs a b = absurd (omega arith)
  zip_cb (y ∷ ys) (u ∷ us) [] a b = absurd (omega arith)
  zip_cb (y ∷ ys) (u ∷ us) (v ∷ vs) a b = ap (λ (z : List ℕ). u ∷ z) (zip_cb ys us vs (omega arith) (omega arith))

  zip_cr : (ys us vs : List ℕ) → length us ≡ length ys → length vs ≡ length ys → map (λ v. v.cr) (zip_levels ys us vs) ≡ vs
  unfolding zip_levels
  zip_cr [] us [] a b = refl
  zip_cr [] us (v ∷ vs) a b = absurd (omega arith)
  zip_cr (y ∷ ys) [] vs a b = absurd (omega arith)
  zip_cr (y ∷ ys) (u ∷ us) [] a b = absurd (omega arith)
  zip_cr (y ∷ ys) (u ∷ us) (v ∷ vs) a b = ap (λ (z : List ℕ). v ∷ z) (zip_cr ys us vs (omega arith) (omega arith))

-- ---- numbers in range

most_in : (d v : ℕ) → v < 2 ^ d → leb v (most d) ≡ true
most_in d v h = le-leb v (most d) (omega arith)

chroma_in_lem : (t : Bool) (d v : ℕ) → v < 2 ^ pick t 0 d → leb v (pick t 0 (most d)) ≡ true
chroma_in_lem true d v h = le-leb v 0 (omega arith)
chroma_in_lem false d v h = most_in d v h

fits_color : (c : Call) (e : Color) → Fits c e → color_in c.format c.luma c.chroma e ≡ true
unfolding color_in
fits_color c e f = rw (most_in c.luma e.y f.y, chroma_in_lem (eqb c.format 0) c.chroma e.cb f.cb, chroma_in_lem (eqb c.format 0) c.chroma e.cr f.cr)

in_level : (lossless : Bool) (d v : ℕ) → InLevel lossless d v → level_in lossless d v ≡ true
unfolding level_in
in_level true d v h = most_in d v h
in_level false d v h = le-leb v 32767 h

-- ---- the block's record of what was read

module _ (size format luma chroma : ℕ) (lossless : Bool) (es : List Color) (t : Told) (call : CallOk (call_for size format luma chroma lossless es)) (w : S.Whole (call_for size format luma chroma lossless es) t.block) where
  abbrev c : Call
  c = call_for size format luma chroma lossless es

  abbrev x : PaletteCu
  x = cu_read c t

  abbrev n : ℕ
  n = size * size

  few : n ≤ 1024
  few = mul-le-mul call.most call.most

  abbrev ys : List ℕ
  ys = t.block.levels.y

  abbrev us : List ℕ
  us = t.block.levels.cb

  abbrev vs : List ℕ
  vs = t.block.levels.cr

  ys_are : length ys ≡ n
  ys_are = each-length _ t.block.cells ys w.y ∙ w.count

  us_are : length us ≡ length ys
  us_are = each-length _ t.block.cells us w.cb ∙ w.count ∙ sym ys_are

  vs_are : length vs ≡ length ys
  vs_are = each-length _ t.block.cells vs w.cr ∙ w.count ∙ sym ys_are

  zip_are : length (zip_levels ys us vs) ≡ n
  zip_are = zip_length ys us vs us_are vs_are ∙ ys_are

  pub colours-back : take (length t.block.colours) (padded 64 no_color t.block.colours) ≡ t.block.colours
  colours-back = padded-take 64 no_color t.block.colours (length t.block.colours) refl

  flags-back : take (length t.block.flags) (padded 128 false t.block.flags) ≡ t.block.flags
  flags-back = padded-take 128 false t.block.flags (length t.block.flags) refl

  cells-back : take n (padded 1024 0 t.block.cells) ≡ t.block.cells
  cells-back = padded-take 1024 0 t.block.cells n w.count

  levels_back : take n (padded 1024 no_levels (zip_levels ys us vs)) ≡ zip_levels ys us vs
  levels_back = padded-take 1024 no_levels (zip_levels ys us vs) n zip_are

  -- it is the block
  block_is : block_of x ≡ t.block
  unfolding cu_read
  block_is =
      let ey : map (λ v. v.y) (take n (padded 1024 no_levels (zip_levels ys us vs))) ≡ ys = ap (map (λ v. v.y)) levels_back ∙ zip_y ys us vs us_are vs_are in
      let eb : map (λ v. v.cb) (take n (padded 1024 no_levels (zip_levels ys us vs))) ≡ us = ap (map (λ v. v.cb)) levels_back ∙ zip_cb ys us vs us_are vs_are in
      let er : map (λ v. v.cr) (take n (padded 1024 no_levels (zip_levels ys us vs))) ≡ vs = ap (map (λ v. v.cr)) levels_back ∙ zip_cr ys us vs us_are vs_are in
      (λ j. record {
        colours = colours-back j;
        flags = flags-back j;
        signalled = t.block.signalled;
        escape = t.block.escape;
        transpose = t.block.transpose;
        cells = cells-back j;
        levels = record { y = ey j; cb = eb j; cr = er j };
      })

  -- the bins do not tell the predictor
  bins_same : (rs : List Run) → bins_of x rs ≡ block_bins c (block_of x) rs
  unfolding bins_of block_bins palette_bins entries_bins levels_bins chroma_due cu_read
  bins_same rs = refl

  bins_are : (rs : List Run) → bins_of x rs ≡ block_bins c t.block rs
  bins_are rs = bins_same rs ∙ ap (λ (b : B.Block). block_bins c b rs) block_is

  -- ---- it holds together

  top-is : max_index x ≡ top_index t.block
  unfolding max_index cu_read
  top-is = refl

  counts_hold_lem : counts_hold x ≡ true
  unfolding counts_hold cu_read
  counts_hold_lem = rw flags-back (eq-eqb _ _ w.sum)

  entries_hold_lem : entries_hold x ≡ true
  unfolding entries_hold cu_read
  entries_hold_lem =
      at_up_to _ (length t.block.colours) (λ i h.
      rw (padded-read 64 no_color no_color t.block.colours i h) (fits_color c (get_or t.block.colours i no_color) (all-at (Fits c) t.block.colours no_color w.fits i h)))

  -- the levels of an escape
  levels_in_lem : (i : ℕ) → i < n → get_or t.block.cells i 0 ≡ length t.block.colours → levels_in x (record { y = get_or ys i 0; cb = get_or us i 0; cr = get_or vs i 0 }) ≡ true
  unfolding levels_in cu_read
  levels_in_lem i h e =
      let o : i < length t.block.cells = rw w.count h in
      let y = in_level lossless luma (get_or ys i 0) (each_at_lem _ t.block.cells ys 0 0 w.y i o e) in
      rw y
      (either (eqb format 0)
      (λ z. rw z)
      (λ z.
      let f : format ≢ 0 = eqb-false format 0 z in
      rw (z, in_level lossless chroma (get_or us i 0) (each_at_lem _ t.block.cells us 0 0 w.cb i o e f), in_level lossless chroma (get_or vs i 0) (each_at_lem _ t.block.cells vs 0 0 w.cr i o e f))))

  cell_holds_lem : (i : ℕ) → i < n → cell_holds x i ≡ true
  unfolding cell_holds cu_read
  cell_holds_lem i h =
      let o : i < length t.block.cells = rw w.count h in
      let q : get_or (padded 1024 0 t.block.cells) i 0 ≡ get_or t.block.cells i 0 = padded-read 1024 0 0 t.block.cells i o in
      let v : get_or (padded 1024 no_levels (zip_levels ys us vs)) i no_levels ≡ record { y = get_or ys i 0; cb = get_or us i 0; cr = get_or vs i 0 } =
      padded-read 1024 no_levels no_levels (zip_levels ys us vs) i (rw zip_are h) ∙ zip-at ys us vs i (rw ys_are h) us_are vs_are
      in
      rw (q, v, le-leb (get_or t.block.cells i 0) (max_index x) (rw top-is (all-at _ t.block.cells 0 w.cells i o)))
      (either (eqb (get_or t.block.cells i 0) (length t.block.colours))
      (λ z. rw (z, levels_in_lem i h (eqb-true _ _ z)))
      (λ z. rw z))

  empty_holds_lem : empty_holds x ≡ true
  unfolding empty_holds cu_read
  empty_holds_lem =
      either (eqb (length t.block.colours) 0)
      (λ z. let e = w.empty (eqb-true _ _ z) in rw (z, e.0, e.1))
      (λ z. rw z)

  module _ (formats : formats_in format luma chroma ≡ true) (sizes : sizes_in format size ≡ true) where
    size_holds_lem : block_size_in x ≡ true
    unfolding block_size_in sizes_in cu_read
    size_holds_lem = sizes

    format_holds_lem : format_holds x ≡ true
    unfolding format_holds formats_in cu_read
    format_holds_lem = formats

    cells_hold : up_to (x.size * x.size) (cell_holds x) ≡ true
    unfolding cu_read
    cells_hold = at_up_to (cell_holds x) n cell_holds_lem

    few_hold : every (leb x.palette_size 64 ∷ leb x.pred_size 128 ∷ leb x.tolerance 16 ∷ []) ≡ true
    unfolding cu_read
    few_hold = rw (le-leb (length t.block.colours) 64 w.limit, le-leb (length t.block.flags) 128 w.flags)

    pub told-holds : holds 64 x ≡ true
    unfolding holds
    told-holds =
        let a = both (leb x.palette_size 64) _ few_hold in
        let b = both (leb x.pred_size 128) _ a.1 in
        let d = both (leb x.tolerance 16) true b.1 in
        rw (size_holds_lem, format_holds_lem, counts_hold_lem, entries_hold_lem, cells_hold, empty_holds_lem, a.0, b.0, d.0)

  pub told_arrays : (p : PalettePredictor) → length p.entries ≡ 128 → Arrays p x
  unfolding cu_read
  told_arrays p full = record {
    entries = full;
    palette = padded-length 64 no_color t.block.colours w.limit;
    flags = padded-length 128 false t.block.flags w.flags;
    indices = padded-length 1024 0 t.block.cells (omega (arith, w.count, few));
    levels = padded-length 1024 no_levels (zip_levels ys us vs) (omega (arith, zip_are, few));
  }

  told-starts : S.Suits c t.block → take (trues (take x.pred_size x.reused)) x.palette ≡ flagged (take x.pred_size x.reused) es
  unfolding cu_read
  told-starts u =
      rw flags-back
      (take-append-le (trues t.block.flags) t.block.colours (replicate (64 - length t.block.colours) no_color) (omega (arith, w.sum))
      ∙ u.colours ∙ sym (chosen-flagged t.block.flags es))

  -- ---- its runs keep the rules

  module _ (k : S.Runs c t.block t.runs) where
    runs-back : take (length t.runs) (padded 1024 no_run t.runs) ≡ t.runs
    runs-back = padded-take 1024 no_run t.runs (length t.runs) refl

    pub told-runs : runs_hold x (padded 1024 no_run t.runs) (length t.runs) ≡ true
    unfolding cu_read
    told-runs =
        either (ltb 0 (top_index t.block))
        (λ z.
        let o : 0 < top_index t.block = ltb-true 0 (top_index t.block) z in
        let m : 0 < max_index x = rw top-is o in
        let s = k o in
        let f : 0 + length t.runs ≤ n = keeps-count size n 0 false t.runs (rules_keep size n (top_index t.block) t.block.cells 0 false t.runs s) in
        sym (runs_tested x (padded 1024 no_run t.runs) (length t.runs) true m (omega (arith, few))
        (sym (rw (runs-back, cells-back, top-is) (rules-replays size n (top_index t.block) t.block.cells 0 false t.runs s)))))
        (λ z.
        let m : max_index x ≡ 0 = top-is ∙ omega (arith, ltb-false 0 (top_index t.block) z) in
        sym (runs_ignored x (padded 1024 no_run t.runs) (length t.runs) m))

module _ (size format luma chroma : ℕ) (lossless : Bool) (p : PalettePredictor) (room : ℕ) (l : List ℕ) where
  -- read_palette_cu's answer
  abbrev pub read : BlockRead
  read = read_of size format luma chroma lossless p room l

  abbrev es : List Color
  es = take p.size p.entries

  none_refused : read.refusal ≡ 0 → read_refusal size format luma chroma p room ≡ 0
  unfolding read_of read_answer answer_of refused_of
  none_refused e =
      either (eqb (read_refusal size format luma chroma p room) 0)
      (λ t. eqb-true _ 0 t)
      (λ t. let z : read_refusal size format luma chroma p room ≡ 0 = rw t at e in z)

  record Tests : Type 0 where
    formats : formats_in format luma chroma ≡ true
    sizes : sizes_in format size ≡ true
    predictors : predictor_in format luma chroma p ≡ true

  tests : read_refusal size format luma chroma p room ≡ 0 → Tests
  unfolding read_refusal
  tests e =
      let a = refused_not (formats_in format luma chroma) 1 ((sizes_in format size, 2) ∷ (predictor_in format luma chroma p, 5) ∷ (leb (size * size) room, 9) ∷ []) (omega arith) e in
      let b = refused_not (sizes_in format size) 2 ((predictor_in format luma chroma p, 5) ∷ (leb (size * size) room, 9) ∷ []) (omega arith) a.1 in
      let d = refused_not (predictor_in format luma chroma p) 5 ((leb (size * size) room, 9) ∷ []) (omega arith) b.1 in
      record { formats = a.0; sizes = b.0; predictors = d.0 }

  module _ (full : length p.entries ≡ 128) where
    module _ (s : Tests) where
      abbrev call : Call
      call = call_for size format luma chroma lossless es

      few-entries : p.size ≤ 128
      unfolding predictor_in
      few-entries = leb-true _ _ (both (leb p.size 128) _ s.predictors).0

      es_are : length es ≡ p.size
      es_are = length-take-le p.size p.entries (omega (arith, few-entries))

      call_ok : CallOk call
      unfolding sizes_in
      call_ok =
          let b = size_bounds size (both (size_in size) _ s.sizes).0 in
          record { size = b.0; most = b.1; limit = omega arith; predictor = omega (arith, es_are, few-entries) }

      entries_fit : All (Fits call) es
      unfolding predictor_in
      entries_fit =
          let u = up_to-at _ p.size (both _ true (both (leb p.size 128) _ s.predictors).1).0 in
          all_by (Fits call) es no_color (λ i h.
          let o : i < p.size = omega (arith, es_are) in
          rw (get_or-take p.size p.entries i no_color o) (color_fits call (get_or p.entries i no_color) (u i o)))

      told : (t : Told) (q : ℕ) → read_block call l 0 ≡ Value t q → answer_of call (read_block call l 0) ≡ read → Accepted p l read
      unfolding answer_of cu_read
      told t q e r =
          let g = read_written call call_ok entries_fit l q t e in
          let w = g.whole in
          let v : answer_of call (Value t q) ≡ read = ap (answer_of call) (sym e) ∙ r in
          let m = bins_are size format luma chroma lossless es t call_ok w t.runs in
          let b : take (length t.runs) (padded 1024 no_run t.runs) ≡ t.runs = padded-take 1024 no_run t.runs (length t.runs) refl in
          subst (Accepted p l) v
          (record {
            ready = record {
              whole = told-holds size format luma chroma lossless es t call_ok w s.formats s.sizes;
              valid = s.predictors;
              flags = g.suits.flags ∙ es_are;
              starts = told-starts size format luma chroma lossless es t call_ok w g.suits;
            };
            arrays = told_arrays size format luma chroma lossless es t call_ok w p full;
            runs = told-runs size format luma chroma lossless es t call_ok w g.runs;
            bins = rw b (m ∙ g.bins);
            used = rw b (ap length m ∙ sym g.used);
          })

    -- the parse refuses with 10, 11 and 12 alone
    not_zero : (k q : ℕ) → read_block (call_for size format luma chroma lossless es) l 0 ≡ Refused k q → read.refusal ≡ 0 → ⊥
    unfolding answer_of refused_of
    not_zero k q h e =
        let r = read_done size format luma chroma p room lossless l (none_refused e) in
        let z : k ≡ 0 = ap (λ (a : Answer Told). (answer_of (call_for size format luma chroma lossless es) a).refusal) (sym h) ∙ ap (λ (b : BlockRead). b.refusal) r ∙ e in
        let f : Fair {A = Told} l (Refused k q) = subst (Fair l) h (fair_block l (call_for size format luma chroma lossless es) 0 (omega arith)) in
        omega (arith, f.3)

    -- WHAT IS READ IS WHAT WOULD BE WRITTEN
    pub accepted : read.refusal ≡ 0 → Accepted p l read
    accepted e = go (read_block (call_for size format luma chroma lossless es) l 0) refl
      where
        go : (a : Answer Told) → read_block (call_for size format luma chroma lossless es) l 0 ≡ a → Accepted p l read
        go (Value t q) h = told (tests (none_refused e)) t q h (read_done size format luma chroma p room lossless l (none_refused e))
        go (Refused k q) h = absurd (not_zero k q h e)

    -- and written again it is the bins that were used
    pub rewritten : read.refusal ≡ 0 → (list : List ℕ) → read.used ≤ length list
        → (write_of read.cu read.runs read.count (length list) ≡ record { refusal = 0; bins = read.used }) × (list_after read.cu read.runs read.count list ≡ take read.used l ++ drop read.used list)
    rewritten e list h =
        let a = accepted e in
        let room : length (bins_of read.cu (take read.count read.runs)) ≤ length list = omega (arith, a.used) in (
          writes read.cu read.runs read.count list a.ready.whole a.runs room ∙ ap (λ (k : ℕ). record { refusal = 0; bins = k }) a.used,
          lays read.cu read.runs read.count list a.ready.whole a.runs room ∙ ap (λ (k : ℕ). bins_of read.cu (take read.count read.runs) ++ drop k list) a.used ∙ ap (λ (x : List ℕ). x ++ drop read.used list) a.bins,
        )
