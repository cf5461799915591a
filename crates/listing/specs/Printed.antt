-- The listing as the code makes it, and that it is the definition's.
use Rattle.std.specs.Prelude.{◌≡◌, refl, Bool, true, false, List, [], ◌∷◌, ◌++◌, ℕ, ◌+◌, ◌*◌, ◌≤◌, ◌<◌, min, eqb, length, take}
use Rattle.std.proofs.Common.{ap, ◌∙◌, ⊎_elim, mul-le-mul, arith, ne_eqb}
use Rattle.base.specs.Answer.{Answer, Value, Refused}
use Rattle.base.specs.Lists.{padded-take}
use Rattle.base.specs.Pick.{pick, lt_or_le}
use Rattle.syntax.specs.Block.{Call, Map, Told, max_index, palette_of, read_block}
use Rattle.syntax.proofs.BlockLaws.{block_code}
use Rattle.syntax.specs.PaletteLaws.{CallOk}
use Rattle.syntax.specs.Records.{no_run}
use Rattle.syntax.specs.Runs.{Run, Keeps}
use Rattle.readblock.specs.Read.{BlockRead, cu_read, refused_of, answer_of}
use Rattle.read.specs.Named.{Named, read_named}
use Rattle.read.specs.ReadLaws.{read_held, read_array, read_taken}
use Rattle.read.specs.Reading.{read_answer, read_of, call_with}
use Rattle.layout.specs.Layout.{size_of, format_of, luma_of, chroma_of, lossless_of, laid_out, predictor_of, bins_of, array_of}
use Rattle.layout.specs.LayoutLaws.{array_length, entries-length, array_size, array_entries}
use Rattle.lines.specs.Lines.{refused_line, block_line, run_lines}
use Rattle.listing.specs.Listing.{reading_of, told_of, listing_of}

-- the reader's record, with numbers held to a byte and the predictor as an array
unfoldable pub reading_in : List ℕ → BlockRead
reading_in l = read_of (size_of l) (min (format_of l) 255) (min (luma_of l) 255) (min (chroma_of l) 255) (eqb (lossless_of l) 1) (array_of l) 1024 (bins_of l)

-- the lines of a reader's record
unfoldable pub printed : BlockRead → List ℕ
printed b =
    pick (eqb b.refusal 0)
    (block_line b.cu.size b.cu.palette_size b.cu.escape_present b.cu.transpose b.used ++ run_lines (take b.count b.runs))
    (refused_line b.refusal b.place)

-- ---- the record's lines are the answer's

module _ (c : Call) where
  printed-is : (a : Answer Told) → Named a → printed (answer_of c a) ≡ told_of c.size a
  unfolding printed answer_of refused_of cu_read told_of
  printed-is (Value t q) n = rw (padded-take 1024 no_run t.runs (length t.runs) refl)
  printed-is (Refused k p) n = rw (ne_eqb k 0 (λ e. omega (arith, n)))

-- ---- an array of 1,024 runs holds them all

keeps-most : (size n scan : ℕ) (prev : Bool) (rs : List Run) → Keeps size n scan prev rs → scan + length rs ≤ n
keeps-most size n scan prev [] k = omega arith
keeps-most size n scan prev (r ∷ rs) k = omega (arith, keeps-most size n (scan + r.more + 1) r.above rs k.1)

runs-most : (c : Call) (l : List ℕ) (t : Told) (q : ℕ) → CallOk c → read_block c l 0 ≡ Value t q → length t.runs ≤ 1024
runs-most c l t q ok e =
    let m = ((block_code c ok).back l 0 q t e).1.sent.map in
    let s : c.size * c.size ≤ 32 * 32 = mul-le-mul ok.most ok.most in
    ⊎_elim
    (λ (h : 0 < max_index (palette_of t.block)). omega (arith, keeps-most c.size (c.size * c.size) 0 false t.runs (m.coded h).keeps))
    (λ (h : max_index (palette_of t.block) ≤ 0). omega (arith, ap (λ (x : Map). length x.runs) (m.plain (omega arith))))
    (lt_or_le 0 (max_index (palette_of t.block)))

count_of : (c : Call) (a : Answer Told) → ((t : Told) (q : ℕ) → a ≡ Value t q → length t.runs ≤ 1024) → (answer_of c a).count ≤ 1024
unfolding answer_of refused_of
count_of c (Value t q) h = h t q refl
count_of c (Refused k p) h = omega arith

pub count_most : (l : List ℕ) (b : BlockRead) → b ≡ reading_in l → b.count ≤ 1024
unfolding reading_in read_of
count_most l b e =
    let f = min (format_of l) 255 in
    let y = min (luma_of l) 255 in
    let c = min (chroma_of l) 255 in
    let o = call_with (size_of l) f y c (eqb (lossless_of l) 1) (array_of l) in
    omega (
      arith,
      ap (λ (x : BlockRead). x.count) e,
      count_of o (read_answer (size_of l) f y c (eqb (lossless_of l) 1) (array_of l) 1024 (bins_of l)) (λ t q z.
          let r = read_taken (size_of l) f y c (eqb (lossless_of l) 1) (array_of l) 1024 (bins_of l) t q z in
          runs-most o (bins_of l) t q r.0 r.1),
    )

-- ---- what is printed

answer-same : (l : List ℕ) → read_answer (size_of l) (min (format_of l) 255) (min (luma_of l) 255) (min (chroma_of l) 255) (eqb (lossless_of l) 1) (array_of l) 1024 (bins_of l) ≡ reading_of l
unfolding reading_of
answer-same l =
    read_held (size_of l) (eqb (lossless_of l) 1) 1024 (bins_of l) (format_of l) (luma_of l) (chroma_of l) (array_of l)
    ∙ read_array (size_of l) (eqb (lossless_of l) 1) 1024 (bins_of l) (format_of l) (luma_of l) (chroma_of l) (array_of l) (predictor_of l) (array_size l) (array_length l) (entries-length l) (array_entries l)

pub listing_read : (l : List ℕ) (b : BlockRead) → laid_out l ≡ true → b ≡ reading_in l → printed b ≡ listing_of l
unfolding listing_of reading_in read_of
listing_read l b t e =
    let f = min (format_of l) 255 in
    let y = min (luma_of l) 255 in
    let c = min (chroma_of l) 255 in
    let a = read_answer (size_of l) f y c (eqb (lossless_of l) 1) (array_of l) 1024 (bins_of l) in
    ap printed e
    ∙ printed-is (call_with (size_of l) f y c (eqb (lossless_of l) 1) (array_of l)) a (read_named (bins_of l) (size_of l) f y c (eqb (lossless_of l) 1) (array_of l) 1024)
    ∙ rw (t, answer-same l)

pub listing_refused : (l : List ℕ) → laid_out l ≡ false → refused_line 16 0 ≡ listing_of l
unfolding listing_of
listing_refused l t = rw t
