-- The round trip worked out: document 01's example goes all the way, and the levels of a transposed 4:2:2 block.
use Rattle.std.specs.Prelude.{Bool, true, false, List, [], ◌∷◌, ◌≡◌, refl, ℕ, ◌-◌, length, replicate}
use Rattle.std.proofs.Common.{ap, arith}
use Rattle.std.specs.Float.Ieee.{add, lt, le, div, of_int, of_bits}
use Rattle.base.specs.Codes.{each_bins}
use Rattle.base.specs.Tests.{up_to}
use Rattle.h265.specs.Reuse.{trues, flagged, reuse_bins}
use Rattle.h265.specs.Scan.{row_of, col_of, scan_at, place_above, above_at}
use Rattle.h265.specs.Strings.{bits, egk, egk_aux, tb, flog, flog_aux, unary, rice, count_bins, run_bins, prefix_of, suffixes, suffix_bins, run_class}
use Rattle.model.specs.Domain.{depth_in, size_in, even_in, color_in, no_color, predictor_in}
use Rattle.model.specs.Whole.{max_index, block_size_in, format_holds, counts_hold, entries_hold, level_in, levels_in, cell_holds, empty_holds, holds}
use Rattle.model.specs.declared.PaletteCu.{PaletteCu}
use Rattle.rates.specs.Rates.{rate_in, pair_in, rates_in, class_rates, rate_of, sum_of, tb_parts, suffix_parts, run_parts, run_rate, index_rate, share_rate}
use Rattle.paths.specs.Cells.{copies, lasts, index_length, above_length, draws_from, sent_from, stops_at}
use Rattle.paths.specs.Plan.{flag_rate, head_rate, draw_cost, copy_cost, relaxed, stopped, indexed, copied, stepped, swept, trail, run_to, runs_of, end_cost, last_kind, planned}
use Rattle.plan.specs.Answer.{runs_for}
use Rattle.syntax.specs.Block.{column, signalled_bins, entries_bins, palette_bins, indices_bins, coded_bins, map_bins, chroma_due, dues, level_bins, levels_bins, block_bins}
use Rattle.syntax.specs.Replay.{reference, less_one}
use Rattle.syntax.specs.Runs.{sent_of, final_of, asked, kind_bins, more_bins, runs_bins}
use Rattle.write.specs.Write.{bins_of}
use Rattle.eyes.specs.Ready.{Ready, Arrays}
use Rattle.trip.specs.Demand.{levels_sent, RoundTrip}
use Rattle.trip.proofs.Trip.{round_trip}
use Rattle.trip.specs.Figures.{block_2, none, ones}

pub ready_2 : Ready none block_2
unfolding block_2 none holds block_size_in size_in even_in format_holds depth_in counts_hold trues entries_hold up_to color_in cell_holds max_index levels_in level_in empty_holds predictor_in flagged
ready_2 = record { whole = refl; valid = refl; flags = refl; starts = refl }

pub arrays_2 : Arrays none block_2
unfolding block_2 none
arrays_2 = record { entries = refl; palette = refl; flags = refl; indices = refl; levels = refl }

pub rates_2 : rates_in ones ≡ true
unfolding ones rates_in pair_in rate_in up_to le of_int
rates_2 = refl

pub runs_2 : runs_for block_2 ones ≡ record { above = false; sent = 0; more = 0; start = 0 } ∷ record { above = false; sent = 0; more = 0; start = 1 } ∷ record { above = true; sent = 0; more = 1; start = 2 } ∷ []
unfolding block_2 ones runs_for max_index row_of col_of scan_at place_above above_at bits tb flog flog_aux unary prefix_of suffixes run_class reference less_one class_rates rate_of sum_of tb_parts suffix_parts run_parts run_rate index_rate share_rate copies lasts index_length above_length draws_from sent_from stops_at flag_rate head_rate draw_cost copy_cost relaxed stopped indexed copied stepped swept trail run_to runs_of end_cost last_kind planned add lt div of_int of_bits
runs_2 = refl

pub bins_2 : bins_of block_2 (record { above = false; sent = 0; more = 0; start = 0 } ∷ record { above = false; sent = 0; more = 0; start = 1 } ∷ record { above = true; sent = 0; more = 1; start = 2 } ∷ [])
    ≡ 1 ∷ 0 ∷ 1 ∷ 0 ∷ 0 ∷ 0 ∷ 0 ∷ 1 ∷ 0 ∷ 1 ∷ 0 ∷ 1 ∷ 1 ∷ 0 ∷ 0 ∷ 1 ∷ 0 ∷ 0 ∷ 0 ∷ 0 ∷ 0 ∷ 0 ∷ 0 ∷ 1 ∷ 0 ∷ 3 ∷ 4 ∷ 6 ∷ 6 ∷ []
unfolding block_2 bins_of block_bins palette_bins reuse_bins signalled_bins trues entries_bins column each_bins bits egk egk_aux map_bins coded_bins indices_bins count_bins rice unary tb flog flog_aux sent_of final_of runs_bins kind_bins asked more_bins run_bins run_class prefix_of suffix_bins suffixes levels_bins dues level_bins
bins_2 = refl

-- room for 3 runs, 29 bins and 4 runs is enough: what is asked can be had
pub trip_2 : (rest : List ℕ) → RoundTrip block_2 none ones 3 (replicate 29 0) 4 rest
unfolding block_2
trip_2 rest =
    let a : length (runs_for block_2 ones) ≡ 3 = ap length runs_2 in
    let b : length (bins_of block_2 (runs_for block_2 ones)) ≡ 29 = rw runs_2 (ap length bins_2) in
    round_trip block_2 none arrays_2 ready_2 ones 3 (replicate 29 0) 4 rest rates_2 (omega arith) (omega arith) (omega arith)

-- ---- levels of a 4:2:2 block of size 2 whose cells all escape: the scan's columns are 0 1 1 0, its rows 0 0 1 1

abbrev block_422 : Bool → PaletteCu
block_422 turned = record {
  size = 2;
  chroma_idc = 2;
  bd_luma = 8;
  bd_chroma = 8;
  lossless = false;
  palette = replicate 64 no_color;
  palette_size = 1;
  reused = replicate 128 false;
  pred_size = 0;
  num_signaled = 1;
  escape_present = true;
  transpose = turned;
  indices = replicate 1024 1;
  escapes = replicate 1024 (record { y = 7; cb = 8; cr = 9 });
  sse = 0;
  tolerance = 0;
}

-- chroma's are sent in even columns, and in even rows where the block is transposed; luma's at every escape
pub levels_422 : (levels_sent (block_422 false) 0 ≡ record { y = 7; cb = 8; cr = 9 }) × (levels_sent (block_422 false) 1 ≡ record { y = 7; cb = 0; cr = 0 }) × (levels_sent (block_422 false) 2 ≡ record { y = 7; cb = 0; cr = 0 }) × (levels_sent (block_422 false) 3 ≡ record { y = 7; cb = 8; cr = 9 })
unfolding levels_sent chroma_due row_of col_of
levels_422 = (refl, refl, refl, refl)

pub levels_422_transposed : (levels_sent (block_422 true) 0 ≡ record { y = 7; cb = 8; cr = 9 }) × (levels_sent (block_422 true) 1 ≡ record { y = 7; cb = 8; cr = 9 }) × (levels_sent (block_422 true) 2 ≡ record { y = 7; cb = 0; cr = 0 }) × (levels_sent (block_422 true) 3 ≡ record { y = 7; cb = 0; cr = 0 })
unfolding levels_sent chroma_due row_of col_of
levels_422_transposed = (refl, refl, refl, refl)
