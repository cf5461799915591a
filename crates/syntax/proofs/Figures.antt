-- Document 01's figures, held against the definitions: each is computed.
use Rattle.std.specs.Prelude.{◌≡◌, refl, Bool, true, false, List, [], ◌∷◌, ◌++◌, ℕ, length, replicate}
use Rattle.base.specs.Answer.{Answer, Value, Refused}
use Rattle.h265.specs.Strings.{egk, egk_aux, bits, tb, flog, flog_aux, unary, run_bins, prefix_of, suffixes, suffix_bins, rice, count_bins, run_class}
use Rattle.h265.specs.Parse.{bin_at, bits_from, ones_from, egk_at, held, tb_at, unary_at, rice_at, count_at, suffix_at, run_at, marker_at}
use Rattle.base.specs.Codes.{each_at, each_bins}
use Rattle.h265.specs.Reuse.{trues, lead, code_of, gap_of, reuse_bins, reuse_at}
use Rattle.syntax.specs.Runs.{Run, sent_of, final_of, asked, inferred, kind_bins, kind_at, more_bins, more_at, runs_bins, next_sent, runs_at}
use Rattle.h265.specs.Scan.{row_of, col_of, scan_at, place_above, above_at}
use Rattle.syntax.specs.Replay.{reference, less_one, copy_cells, index_of, replay}
use Rattle.syntax.specs.Test.{both, copied, drawn, sent_right, rules, replays}
use Rattle.syntax.specs.Entry.{every, pairwise, test1, test2, fitting, test5, level, test7, test8, read_answer, write_answer}
use Rattle.syntax.specs.Block.{Entry, Call, Block, Told, column, entries, signalled_bins, signalled_at, entries_bins, entries_at, palette_bins, palette_at, indices_bins, indices_at, coded_bins, coded_at, map_bins, map_at, cells_of, chroma_due, dues, level_bins, level_at, levels_bins, levels_at, sent_at, chosen, told_by, block_bins, read_block}

pub golomb_0 : (egk 0 0 ≡ 0 ∷ []) × (egk 0 1 ≡ 1 ∷ 0 ∷ 0 ∷ []) × (egk 0 2 ≡ 1 ∷ 0 ∷ 1 ∷ []) × (egk 0 3 ≡ 1 ∷ 1 ∷ 0 ∷ 0 ∷ 0 ∷ [])
unfolding egk egk_aux bits
golomb_0 = (refl, refl, refl, refl)

pub golomb_3 : (egk 3 0 ≡ 0 ∷ 0 ∷ 0 ∷ 0 ∷ []) × (egk 3 8 ≡ 1 ∷ 0 ∷ 0 ∷ 0 ∷ 0 ∷ 0 ∷ [])
unfolding egk egk_aux bits
golomb_3 = (refl, refl)

pub alphabet_5 : (tb 5 0 ≡ 0 ∷ 0 ∷ []) × (tb 5 1 ≡ 0 ∷ 1 ∷ []) × (tb 5 2 ≡ 1 ∷ 0 ∷ []) × (tb 5 3 ≡ 1 ∷ 1 ∷ 0 ∷ []) × (tb 5 4 ≡ 1 ∷ 1 ∷ 1 ∷ [])
unfolding tb flog flog_aux bits
alphabet_5 = (refl, refl, refl, refl, refl)

-- in an index run whose index sent is 0: the prefix's bins are of classes 3, 6 and 6, the suffix's bypass
pub longest_5 : (run_bins 5 false 0 0 ≡ 6 ∷ []) × (run_bins 5 false 0 1 ≡ 7 ∷ 12 ∷ []) × (run_bins 5 false 0 2 ≡ 7 ∷ 13 ∷ 12 ∷ 0 ∷ []) × (run_bins 5 false 0 3 ≡ 7 ∷ 13 ∷ 12 ∷ 1 ∷ []) × (run_bins 5 false 0 4 ≡ 7 ∷ 13 ∷ 13 ∷ 0 ∷ []) × (run_bins 5 false 0 5 ≡ 7 ∷ 13 ∷ 13 ∷ 1 ∷ [])
unfolding run_bins unary run_class prefix_of suffix_bins suffixes flog flog_aux tb bits
longest_5 = (refl, refl, refl, refl, refl, refl)

-- ---- the worked example of 29 bins

pub call_2 : Call
call_2 = record { size = 2; format = 0; luma = 8; chroma = 8; lossless = false; limit = 64; predictor = [] }

pub block_2 : Block
block_2 = record {
  colours = record { y = 10; cb = 0; cr = 0 } ∷ record { y = 200; cb = 0; cr = 0 } ∷ [];
  flags = [];
  signalled = 2;
  escape = false;
  transpose = false;
  cells = 0 ∷ 1 ∷ 1 ∷ 0 ∷ [];
  levels = record { y = 0 ∷ 0 ∷ 0 ∷ 0 ∷ []; cb = 0 ∷ 0 ∷ 0 ∷ 0 ∷ []; cr = 0 ∷ 0 ∷ 0 ∷ 0 ∷ [] };
}

pub runs_2 : List Run
runs_2 = record { above = false; sent = 0; more = 0; start = 0 } ∷ record { above = false; sent = 0; more = 0; start = 1 } ∷ record { above = true; sent = 0; more = 1; start = 2 } ∷ []

pub bins_2 : List ℕ
bins_2 = 1 ∷ 0 ∷ 1 ∷ 0 ∷ 0 ∷ 0 ∷ 0 ∷ 1 ∷ 0 ∷ 1 ∷ 0 ∷ 1 ∷ 1 ∷ 0 ∷ 0 ∷ 1 ∷ 0 ∷ 0 ∷ 0 ∷ 0 ∷ 0 ∷ 0 ∷ 0 ∷ 1 ∷ 0 ∷ 3 ∷ 4 ∷ 6 ∷ 6 ∷ []

pub written_2 : block_bins call_2 block_2 runs_2 ≡ bins_2
unfolding call_2 block_2 runs_2 bins_2 block_bins palette_bins reuse_bins signalled_bins trues entries_bins column each_bins bits egk egk_aux map_bins coded_bins indices_bins count_bins rice unary tb flog flog_aux sent_of final_of runs_bins kind_bins asked more_bins run_bins run_class prefix_of suffix_bins suffixes levels_bins dues level_bins
written_2 = refl

pub read_2 : read_block call_2 bins_2 0 ≡ Value (record { block = block_2; runs = runs_2 }) 29
unfolding call_2 block_2 runs_2 bins_2 read_block sent_at palette_at reuse_at signalled_at entries_at trues each_at bits_from bin_at egk_at ones_from held entries map_at coded_at indices_at count_at rice_at unary_at tb_at flog flog_aux runs_at kind_at asked inferred next_sent more_at run_at run_class suffix_at suffixes levels_at dues level_at cells_of replay copy_cells place_above scan_at row_of col_of above_at index_of reference told_by chosen marker_at
read_2 = refl

-- ---- the reader's refusals, each worked out by hand: format 0, 8 bits, lossy, limit 64

abbrev read_0 : ℕ → List Entry → List ℕ → Answer Told
read_0 size predictor bins = read_block (record { size = size; format = 0; luma = 8; chroma = 8; lossless = false; limit = 64; predictor = predictor }) bins 0

-- two signalled entries, 10 and 200, no escapes: 20 bins, M = 1
abbrev two : List ℕ → List ℕ
two rest = 1 ∷ 0 ∷ 1 ∷ 0 ∷ 0 ∷ 0 ∷ 0 ∷ 1 ∷ 0 ∷ 1 ∷ 0 ∷ 1 ∷ 1 ∷ 0 ∷ 0 ∷ 1 ∷ 0 ∷ 0 ∷ 0 ∷ 0 ∷ rest

pub reuse_past : read_0 2 (record { y = 5; cb = 0; cr = 0 } ∷ []) (1 ∷ 0 ∷ 1 ∷ []) ≡ Refused 12 0
unfolding read_block sent_at palette_at reuse_at egk_at ones_from bin_at bits_from gap_of
reuse_past = refl

pub entries_65 : read_0 2 [] (1 ∷ 1 ∷ 1 ∷ 1 ∷ 1 ∷ 1 ∷ 0 ∷ 0 ∷ 0 ∷ 0 ∷ 0 ∷ 1 ∷ 0 ∷ []) ≡ Refused 12 0
unfolding read_block sent_at palette_at reuse_at signalled_at trues held egk_at ones_from bin_at bits_from
entries_65 = refl

-- the 17th one of an Exp-Golomb prefix is answered there, at the value's first bin; after 16 the bins end
pub ones_17 : (egk_at 0 (replicate 17 1) 0 ≡ Refused 12 0) × (egk_at 0 (replicate 16 1) 0 ≡ Refused 10 16)
unfolding egk_at ones_from bin_at
ones_17 = (refl, refl)

pub runs-over : read_0 1 [] (two (0 ∷ 0 ∷ 0 ∷ 1 ∷ [])) ≡ Refused 12 20
unfolding read_block sent_at palette_at reuse_at signalled_at entries_at trues each_at bits_from bin_at egk_at ones_from held entries map_at coded_at indices_at count_at rice_at unary_at
runs-over = refl

-- row 0, and no index run is left
pub none_left : read_0 2 [] (two (0 ∷ 0 ∷ 0 ∷ 0 ∷ 0 ∷ 3 ∷ 4 ∷ 6 ∷ [])) ≡ Refused 12 28
unfolding read_block sent_at palette_at reuse_at signalled_at entries_at trues each_at bits_from bin_at egk_at ones_from held entries map_at coded_at indices_at count_at rice_at unary_at tb_at flog flog_aux runs_at kind_at asked inferred next_sent more_at run_at run_class suffix_at
none_left = refl

-- a copy-above run where the reserved runs need the room; it comes before the bad byte 99
pub no_room : read_0 2 [] (two (0 ∷ 0 ∷ 0 ∷ 1 ∷ 0 ∷ 3 ∷ 4 ∷ 7 ∷ 3 ∷ 99 ∷ [])) ≡ Refused 12 29
unfolding read_block sent_at palette_at reuse_at signalled_at entries_at trues each_at bits_from bin_at egk_at ones_from held entries map_at coded_at indices_at count_at rice_at unary_at tb_at flog flog_aux runs_at kind_at asked inferred next_sent more_at run_at run_class suffix_at suffixes
no_room = refl

-- a byte over 22 is of no class, and 23 is no QP marker
pub no_class : (read_0 2 [] (two (0 ∷ 0 ∷ 0 ∷ 1 ∷ 0 ∷ 3 ∷ 24 ∷ [])) ≡ Refused 11 26) × (read_0 1 [] (0 ∷ 23 ∷ []) ≡ Refused 11 1) × (read_0 1 [] (0 ∷ []) ≡ Refused 10 1)
unfolding read_block sent_at palette_at reuse_at signalled_at entries_at trues each_at bits_from bin_at egk_at ones_from held entries map_at coded_at indices_at count_at rice_at unary_at tb_at flog flog_aux marker_at
no_class = (refl, refl, refl)

-- the index sent that equals its reference gets 1 too, and after a copy-above run the reference is the cell above, not the cell before
pub slips : (index_of 3 false (0 ∷ 1 ∷ []) 1 ≡ 2) × (index_of 2 true (0 ∷ 1 ∷ 1 ∷ []) 0 ≡ 1) × (index_of 2 false (0 ∷ 1 ∷ 1 ∷ []) 0 ≡ 0)
unfolding index_of reference above_at place_above scan_at row_of col_of
slips = (refl, refl, refl)

-- the limit is the stream's: at 2 the reuse runs stop after two entries and no count is sent; at 64 both are
pub limits : (reuse_bins 2 (true ∷ true ∷ false ∷ []) ≡ 0 ∷ 0 ∷ []) × (reuse_bins 64 (true ∷ true ∷ false ∷ []) ≡ 0 ∷ 0 ∷ 1 ∷ 0 ∷ 0 ∷ []) × (signalled_bins 2 2 0 ≡ []) × (signalled_bins 64 2 0 ≡ 0 ∷ [])
unfolding reuse_bins lead code_of egk egk_aux bits signalled_bins
limits = (refl, refl, refl, refl)

-- where chroma levels stand in a block of size 2, along the scan, whose columns are 0 1 1 0 and whose rows 0 0 1 1
abbrev places : ℕ → Bool → List Bool
places format turned =
    let c : Call = record { size = 2; format = format; luma = 8; chroma = 8; lossless = false; limit = 64; predictor = [] } in
    chroma_due c turned 0 ∷ chroma_due c turned 1 ∷ chroma_due c turned 2 ∷ chroma_due c turned 3 ∷ []

-- 4:0:0 nowhere; 4:2:0 in even columns of even rows; 4:2:2 in even columns, transposed in even rows; 4:4:4 everywhere
pub chroma-places : (places 0 false ≡ false ∷ false ∷ false ∷ false ∷ []) × (places 1 false ≡ true ∷ false ∷ false ∷ false ∷ []) × (places 1 true ≡ true ∷ false ∷ false ∷ false ∷ []) × (places 2 false ≡ true ∷ false ∷ false ∷ true ∷ []) × (places 2 true ≡ true ∷ true ∷ false ∷ false ∷ []) × (places 3 true ≡ true ∷ true ∷ true ∷ true ∷ [])
unfolding chroma_due row_of col_of
chroma-places = (refl, refl, refl, refl, refl, refl)

-- the entry points on the worked example: with room it is written, with less 9; runs that do not replay are 8
pub entry_2 : (write_answer call_2 block_2 runs_2 29 ≡ Value bins_2 29) × (write_answer call_2 block_2 runs_2 28 ≡ Refused 9 0) × (write_answer call_2 block_2 [] 29 ≡ Refused 8 0) × (read_answer call_2 4 bins_2 ≡ Value (record { block = block_2; runs = runs_2 }) 29) × (read_answer call_2 3 bins_2 ≡ Refused 9 0)
unfolding write_answer read_answer test1 test2 fitting test5 level test7 test8 every pairwise both copied drawn sent_right rules replays less_one above_at place_above scan_at row_of col_of reference trues call_2 block_2 runs_2 bins_2 written_2 block_bins palette_bins reuse_bins signalled_bins entries_bins column each_bins bits egk egk_aux map_bins coded_bins indices_bins count_bins rice unary tb flog flog_aux sent_of final_of runs_bins kind_bins asked more_bins run_bins run_class prefix_of suffix_bins suffixes levels_bins dues level_bins read_block sent_at palette_at reuse_at signalled_at entries_at each_at bits_from bin_at egk_at ones_from held entries map_at coded_at indices_at count_at rice_at unary_at tb_at runs_at kind_at inferred next_sent more_at run_at suffix_at levels_at level_at cells_of replay copy_cells index_of told_by chosen marker_at
entry_2 = (refl, refl, refl, refl, refl)
