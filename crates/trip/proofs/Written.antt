-- For every run list that keeps the rules: the writer lays the block's bins, and the reader reads them back, whatever follows them.
use Rattle.std.proofs.Math.Bool.{true, false}
use Rattle.std.specs.Prelude.{List, [], ◌++◌, ◌≡◌, ℕ, ◌+◌, ◌*◌, ◌-◌, ◌≤◌, ltb, take, drop}
use Rattle.std.proofs.Math.Path.{refl, ap}
use Rattle.std.proofs.Common.{sym, subst, ◌∙◌, take_at}
use Rattle.std.proofs.Math.Nat.{zero-add}
use Rattle.std.proofs.Math.ListN.{length}
use Rattle.std.proofs.lemmas.List.Edits.{sets-eq}
use Rattle.std.proofs.Math.Seq.{get_or-take}
use borrow.Author.Tests.{le-leb}
use Rattle.base.specs.Answer.{Value}
use Rattle.base.specs.Lists.{padded-take, padded-read}
use Rattle.base.specs.Pick.{pick}
use Rattle.base.specs.Tests.{refusal, both}
use Rattle.model.specs.Domain.{no_color}
use Rattle.model.specs.Whole.{block_size_in, holds}
use Rattle.model.specs.WholeLaws.{whole}
use Rattle.model.specs.declared.PaletteCu.{PaletteCu}
use Rattle.model.specs.declared.PalettePredictor.{PalettePredictor}
use Rattle.read.specs.Reading.{formats_in, sizes_in, read_refusal, read_of, read_done}
use Rattle.readblock.specs.Read.{cu_read, answer_of}
use Rattle.readblock.specs.Read.{BlockRead}
use Rattle.syntax.specs.Block.{palette_bins, entries_bins, levels_bins, chroma_due, block_bins, read_block}
use Rattle.syntax.specs.Records.{no_run, block_of}
use Rattle.syntax.specs.Runs.{Run}
use Rattle.syntax.specs.Whole.{top_index, read_back}
use Rattle.syntax.proofs.WholeLaws.{written_read}
use Rattle.write.specs.Written.{Written}
use Rattle.write.specs.Write.{bins_of, runs_hold, write_refusal, write_of, list_after}
use Rattle.eyes.specs.Ready.{Ready, Arrays}
use Rattle.trip.specs.Demand.{transpose_sent, runs_sent, Back, WriteRead}
use Rattle.trip.specs.Suit.{call, colours_are, flags_are, cells_are, top-is, suit_whole, suits, call_ok, runs_suit}
use Rattle.trip.specs.Levels.{levels_back}

-- ---- the writer

module _ (cu : PaletteCu) (runs : List Run) (count : ℕ) (list : List ℕ) (h : holds 64 cu ≡ true) (k : runs_hold cu runs count ≡ true) (room : length (bins_of cu (take count runs)) ≤ length list) where
  size_in_lem : block_size_in cu ≡ true
  unfolding holds
  size_in_lem = (both (block_size_in cu) _ h).0

  none_refused : write_refusal cu runs count (length list) ≡ 0
  unfolding write_refusal
  none_refused = rw (size_in_lem, h, k, le-leb (length (bins_of cu (take count runs))) (length list) room)

  -- no refusal, and the number of the block's bins
  pub writes : write_of cu runs count (length list) ≡ record { refusal = 0; bins = length (bins_of cu (take count runs)) }
  unfolding write_of
  writes = rw none_refused

  -- the list starts with them, and what stood behind them still does
  pub lays : list_after cu runs count list ≡ bins_of cu (take count runs) ++ drop (length (bins_of cu (take count runs))) list
  unfolding list_after
  lays =
      let z : 0 + length (bins_of cu (take count runs)) ≡ length (bins_of cu (take count runs)) = zero-add (length (bins_of cu (take count runs))) in
      rw none_refused (rw z at (sets-eq (bins_of cu (take count runs)) list 0 (rw z room)))

-- ---- the reader

module _ (cu : PaletteCu) (p : PalettePredictor) (a : Arrays p cu) (ready : Ready p cu) (runs : List Run) (count : ℕ) (k : runs_hold cu runs count ≡ true) where
  abbrev rs : List Run
  rs = take count runs

  -- the predictor is not sent
  bins_same : bins_of cu rs ≡ block_bins (call cu p a ready) (block_of cu) rs
  unfolding bins_of block_bins palette_bins entries_bins levels_bins chroma_due
  bins_same = refl

  parses : (rest : List ℕ) → read_block (call cu p a ready) (bins_of cu rs ++ rest) 0 ≡ Value (read_back (call cu p a ready) (block_of cu) rs) (length (bins_of cu rs))
  parses rest =
      rw bins_same (written_read (call cu p a ready) (block_of cu) rs (call_ok cu p a ready) (suit_whole cu p a ready) (suits cu p a ready) (runs_suit cu p a ready runs count k) rest)

  module _ (space : ℕ) (wide : cu.size * cu.size ≤ space) where
    read_refused_not : read_refusal cu.size cu.chroma_idc cu.bd_luma cu.bd_chroma p space ≡ 0
    unfolding read_refusal formats_in sizes_in holds block_size_in
    read_refused_not =
        let w = whole 64 cu ready.whole in
        let s : sizes_in cu.chroma_idc cu.size ≡ true = (both (block_size_in cu) _ ready.whole).0 in
        rw (le-leb cu.chroma_idc 3 w.format, w.luma, w.chroma, s, ready.valid, le-leb (cu.size * cu.size) space wide)

    abbrev answer : List ℕ → BlockRead
    answer l = read_of cu.size cu.chroma_idc cu.bd_luma cu.bd_chroma cu.lossless p space l

    reads : (rest : List ℕ) → answer_of (call cu p a ready) (Value (read_back (call cu p a ready) (block_of cu) rs) (length (bins_of cu rs))) ≡ answer (bins_of cu rs ++ rest)
    reads rest =
        sym (ap (answer_of (call cu p a ready)) (parses rest))
        ∙ read_done cu.size cu.chroma_idc cu.bd_luma cu.bd_chroma p space cu.lossless (bins_of cu rs ++ rest) read_refused_not

    told : Back cu rs (length (bins_of cu rs)) (answer_of (call cu p a ready) (Value (read_back (call cu p a ready) (block_of cu) rs) (length (bins_of cu rs))))
    unfolding answer_of cu_read read_back transpose_sent runs_sent
    told = record {
      accepted = refl;
      block = record {
        entries = colours_are cu p a ready;
        palette = padded-take 64 no_color (take cu.palette_size cu.palette) cu.palette_size (colours_are cu p a ready);
        signalled = refl;
        escape = refl;
        predictors = flags_are cu p a ready;
        flags = padded-take 128 false (take cu.pred_size cu.reused) cu.pred_size (flags_are cu p a ready);
        indices = λ i m.
            padded-read 1024 0 0 (take (cu.size * cu.size) cu.indices) i (rw (cells_are cu p a ready) m)
            ∙ get_or-take (cu.size * cu.size) cu.indices i 0 m;
        levels = levels_back cu p a ready rs;
        transpose = ap (λ (m : ℕ). pick (ltb 0 m) cu.transpose false) (top-is cu p a ready);
        size = refl;
        format = refl;
        luma = refl;
        chroma = refl;
        lossless = refl;
        tolerance = refl;
        figure = refl;
      };
      count = ap (λ (m : ℕ). length (pick (ltb 0 m) rs [])) (top-is cu p a ready);
      runs =
          padded-take 1024 no_run (pick (ltb 0 (top_index (block_of cu))) rs []) (length (pick (ltb 0 (top_index (block_of cu))) rs [])) refl
          ∙ ap (λ (m : ℕ). pick (ltb 0 m) rs []) (top-is cu p a ready);
      used = refl;
    }

    back : (rest : List ℕ) → Back cu rs (length (bins_of cu rs)) (answer (bins_of cu rs ++ rest))
    back rest = subst (Back cu rs (length (bins_of cu rs))) (reads rest) told

-- FOR EVERY RUN LIST THAT KEEPS THE RULES: a block that holds together, with one flag for each entry of a valid predictor, whose palette starts with the colours its flags mark there, in order, and room in the lists
pub write_read : (cu : PaletteCu) (p : PalettePredictor) (runs : List Run) (count : ℕ) (list : List ℕ) (space : ℕ) (rest : List ℕ) → Arrays p cu → Ready p cu
    → runs_hold cu runs count ≡ true → length (bins_of cu (take count runs)) ≤ length list → cu.size * cu.size ≤ space → WriteRead cu p runs count list space rest
write_read cu p runs count list space rest a ready k room wide =
    let bs = bins_of cu (take count runs) in
    let w = writes cu runs count list ready.whole k room in
    let l = lays cu runs count list ready.whole k room in
    let e : (write_of cu runs count (length list)).bins ≡ length bs = ap (λ (x : Written). x.bins) w in
    let t : take (write_of cu runs count (length list)).bins (list_after cu runs count list) ≡ bs = rw (e, l) (take_at bs (drop (length bs) list) (length bs) refl) in
    let b = back cu p a ready runs count k space wide rest in
    record {
      written = w;
      laid = rw e l;
      back =
          subst (λ (n : ℕ). Back cu (take count runs) n (answer cu p a ready runs count k space wide (take (write_of cu runs count (length list)).bins (list_after cu runs count list) ++ rest))) (sym e)
          (subst (λ (x : List ℕ). Back cu (take count runs) (length bs) (answer cu p a ready runs count k space wide (x ++ rest))) (sym t) b);
    }
