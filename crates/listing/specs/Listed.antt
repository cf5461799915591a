-- What a listing says of the bins: where a block is listed, its bins are those that the writer lays for it, and its lines cover the scan.
use Rattle.std.specs.Prelude.{◌≡◌, true, false, List, [], ◌++◌, ℕ, ◌*◌, ◌<◌, eqb, length, take, drop}
use Rattle.std.proofs.Common.{ap, sym, arith, length-append, take_at}
use Rattle.base.specs.Answer.{Value}
use Rattle.h265.specs.Reuse.{trues}
use Rattle.syntax.specs.Block.{Call, Map, Told, colours, chosen, palette_of, block_bins}
use Rattle.syntax.specs.BlockLaws.{ToldOk}
use Rattle.syntax.proofs.BlockLaws.{length-chosen, block_code}
use Rattle.syntax.specs.Runs.{Keeps}
use Rattle.syntax.specs.Whole.{top_index}
use Rattle.read.specs.Reading.{call_with}
use Rattle.read.specs.ReadLaws.{read_taken}
use Rattle.layout.specs.Layout.{size_of, format_of, luma_of, chroma_of, lossless_of, laid_out, predictor_of, bins_of}
use Rattle.lines.specs.Lines.{block_line, run_lines}
use Rattle.listing.specs.Listing.{reading_of, told_of, listing_of}

-- what stands beside the bins
abbrev pub call_of : List ℕ → Call
call_of l = call_with (size_of l) (format_of l) (luma_of l) (chroma_of l) (eqb (lossless_of l) 1) (predictor_of l)

pub record Listed (l : List ℕ) (t : Told) (used : ℕ) : Type 0 where
  pub lines : listing_of l ≡ block_line (size_of l) (length t.block.colours) t.block.escape t.block.transpose used ++ run_lines t.runs
  -- the bins used are those of this block and these runs
  pub bins : block_bins (call_of l) t.block t.runs ≡ take used (bins_of l)
  -- with M = 0 there are no lines but the first
  pub none : top_index t.block ≡ 0 → t.runs ≡ []
  -- else the first run starts at 0, each where the one before ended, the last ends at n
  pub cover : 0 < top_index t.block → Keeps (size_of l) (size_of l * size_of l) 0 false t.runs

-- the palette's size as the block has it
counted : (c : Call) (t : Told) → ToldOk c t → colours (palette_of t.block) ≡ length t.block.colours
counted c t ok =
    omega (
      arith,
      ap length ok.colours,
      length-append (chosen t.block.flags c.predictor) (drop (trues t.block.flags) t.block.colours),
      length-chosen t.block.flags c.predictor ok.sent.palette.flags,
    )

pub listed : (l : List ℕ) (t : Told) (used : ℕ) → laid_out l ≡ true → reading_of l ≡ Value t used → Listed l t used
unfolding listing_of reading_of told_of
listed l t used o e =
    let r = read_taken (size_of l) (format_of l) (luma_of l) (chroma_of l) (eqb (lossless_of l) 1) (predictor_of l) 1024 (bins_of l) t used e in
    let b = (block_code (call_of l) r.0).back (bins_of l) 0 used t r.1 in
    let k = counted (call_of l) t b.1 in
    let n : length (block_bins (call_of l) t.block t.runs) ≡ used = omega (arith, b.0.next) in
    record {
      lines = rw (o, e);
      bins = sym (rw b.0.is (take_at (block_bins (call_of l) t.block t.runs) b.0.rest used n));
      none = λ z. ap (λ (m : Map). m.runs) (b.1.sent.map.plain (omega (arith, k)));
      cover = λ z. (b.1.sent.map.coded (omega (arith, k))).keeps;
    }
