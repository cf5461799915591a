-- What the reader lays there is room for; what stands in the lent list after it, and what stays.
use Rattle.std.specs.Prelude.{◌≡◌, Bool, false, ℕ, ◌*◌, ◌≤◌, eqb, leb, ltb, take, drop}
use Rattle.std.proofs.Math.Path.{refl}
use Rattle.std.proofs.Common.{ap, mul-le-mul, arith, length-take}
use mathlib.Core.List.{List, [], ◌∷◌}
use Rattle.std.proofs.Math.Nat.{min-le_left}
use Rattle.std.proofs.Math.ListN.{length}
use Rattle.std.proofs.lemmas.List.{length-replicate}
use borrow.Author.Tests.{eqb-true, leb-true, ltb-true, ltb-false}
use Rattle.base.specs.Answer.{Answer, Value, Refused}
use Rattle.base.specs.Lists.{padded-length}
use Rattle.base.specs.Pick.{either}
use Rattle.base.specs.Refusals.{refused_not}
use Rattle.model.specs.Domain.{predictor_in}
use Rattle.model.specs.declared.PalettePredictor.{PalettePredictor}
use Rattle.model.specs.declared.PaletteRun.{PaletteRun}
use Rattle.read.specs.Reading.{formats_in, sizes_in, read_refusal, call_with, read_answer, read_of, Fit, fit}
use Rattle.readblock.specs.Read.{BlockRead, refused_of, answer_of}
use Rattle.syntax.specs.Block.{Call, Told, Map, cells_in, max_index, palette_of, read_block}
use Rattle.syntax.specs.BlockLaws.{ToldOk}
use Rattle.syntax.proofs.BlockLaws.{block_code}
use Rattle.syntax.specs.KeepLaws.{keeps-count}
use Rattle.syntax.specs.PaletteLaws.{CallOk}
use Rattle.syntax.specs.Records.{no_run}
use Rattle.runlist.specs.Lists.{laid_none, laid-front, laid-past, laid-length}
use Rattle.readlist.specs.After.{cu_read, counted_of, runs_after}

-- ---- runs are no more than the cells

told-count : (c : Call) (t : Told) → ToldOk c t → length t.runs ≤ cells_in c
told-count c t ok =
    either (ltb 0 (max_index (palette_of t.block)))
    (λ y. omega (arith, keeps-count c.size (cells_in c) 0 false t.runs (ok.sent.map.coded (ltb-true 0 _ y)).keeps))
    (λ y. omega (arith, ap (λ (x : Map). length x.runs) (ok.sent.map.plain (omega (arith, ltb-false 0 (max_index (palette_of t.block)) y)))))

-- the runs of an answer: as many as its count, in front of an array of 1024
pub record Few (most : ℕ) (b : BlockRead) : Type 0 where
  pub cells : b.count ≤ most
  pub array : b.count ≤ 1024
  pub long : length b.runs ≡ 1024

few-refused : (most k p : ℕ) → Few most (refused_of k p)
unfolding refused_of
few-refused most k p = record { cells = omega arith; array = omega arith; long = length-replicate 1024 no_run }

few-answered : (c : Call) → CallOk c → (l : List ℕ) (a : Answer Told) → read_block c l 0 ≡ a → Few (cells_in c) (answer_of c a)
unfolding answer_of
few-answered c call l (Value t q) e =
    let n = told-count c t ((block_code c call).back l 0 q t e).1 in
    let m : cells_in c ≤ 1024 = mul-le-mul call.most call.most in
    let o : length t.runs ≤ 1024 = omega arith in
    record { cells = n; array = o; long = padded-length 1024 no_run t.runs o }
few-answered c call l (Refused k p) e = few-refused (cells_in c) k p

module _ (size format luma chroma : ℕ) (lossless : Bool) (p : PalettePredictor) (bins : List ℕ) where
  abbrev the_call : Call
  the_call = call_with size format luma chroma lossless p

  call_fits : Fit size luma chroma p → CallOk the_call
  call_fits f = record { size = f.least; most = f.most; limit = omega arith; predictor = rw length-take (omega (arith, f.entries, min-le_left p.size (length p.entries))) }

  module _ (room : ℕ) where
    -- no refusal: there is room for a run each cell
    read-room : read_refusal size format luma chroma p room ≡ 0 → size * size ≤ room
    unfolding read_refusal
    read-room e =
        let a = refused_not (formats_in format luma chroma) 1 ((sizes_in format size, 2) ∷ (predictor_in format luma chroma p, 5) ∷ (leb (size * size) room, 9) ∷ []) (omega arith) e in
        let b = refused_not (sizes_in format size) 2 ((predictor_in format luma chroma p, 5) ∷ (leb (size * size) room, 9) ∷ []) (omega arith) a.1 in
        let c = refused_not (predictor_in format luma chroma p) 5 ((leb (size * size) room, 9) ∷ []) (omega arith) b.1 in
        leb-true _ _ (refused_not (leb (size * size) room) 9 [] (omega arith) c.1).0

    pub read-few : Few room (read_of size format luma chroma lossless p room bins)
    unfolding read_of read_answer answer_of
    read-few =
        either (eqb (read_refusal size format luma chroma p room) 0)
        (λ e.
        let z = eqb-true _ 0 e in
        let f = few-answered the_call (call_fits (fit size format luma chroma p room z)) bins (read_block the_call bins 0) refl in
        rw e (record { cells = omega (arith, f.cells, read-room z); array = f.array; long = f.long }))
        (λ e. rw e (few-refused room (read_refusal size format luma chroma p room) 0))

    -- the code's answer, its count and its runs
    pub counted_is : (b : BlockRead) → b ≡ read_of size format luma chroma lossless p room bins
        → (record { answer = cu_read b; count = b.count; runs = b.runs } ≡ counted_of size format luma chroma lossless p room bins) × (b.count ≤ 1024) × (b.count ≤ room)
    unfolding counted_of
    counted_is b e = rw e (refl, read-few.array, read-few.cells)

  module _ (l : List PaletteRun) where
    -- the answer by value, with room for as many runs as the list has records
    abbrev pub answer : BlockRead
    answer = read_of size format luma chroma lossless p (length l) bins

    -- THE LIST IS AS LONG AS IT WAS
    pub after-length : length (runs_after size format luma chroma lossless p bins l) ≡ length l
    unfolding runs_after
    after-length = let f = read-few (length l) in laid-length l _ _ (omega (arith, f.array, f.long)) f.cells

    -- THE RUNS READ STAND AT ITS FRONT, AND EVERY RECORD PAST THEIR COUNT IS AS IT WAS
    pub after-runs : (take answer.count (runs_after size format luma chroma lossless p bins l) ≡ take answer.count answer.runs) × (drop answer.count (runs_after size format luma chroma lossless p bins l) ≡ drop answer.count l)
    unfolding runs_after
    after-runs =
        let f = read-few (length l) in
        let n : answer.count ≤ length answer.runs = omega (arith, f.array, f.long) in
        (laid-front l answer.runs answer.count n, laid-past l answer.runs answer.count n)

    -- ON A REFUSAL NO RECORD CHANGES
    pub after-refused : (answer.refusal ≡ 0 → ⊥) → runs_after size format luma chroma lossless p bins l ≡ l
    unfolding runs_after read_of answer_of refused_of
    after-refused o = rw (none (read_answer size format luma chroma lossless p (length l) bins) o) (laid_none l _)
      where
        none : (a : Answer Told) → ((answer_of the_call a).refusal ≡ 0 → ⊥) → (answer_of the_call a).count ≡ 0
        none (Value t q) h = absurd (h refl)
        none (Refused k q) h = refl
