-- Plans worked out: document 01's example, one that a list outside the planner's paths beats, and the tie at the end.
use Rattle.std.specs.Prelude.{◌≡◌, refl, Bool, true, false, List, [], ◌∷◌, ℕ, ◌-◌, Float, replicate}
use Rattle.std.specs.Float.{binary32}
use Rattle.std.specs.Float.Ieee.{add, lt, div, of_int, of_bits}
use Rattle.base.specs.Upto.{number}
use Rattle.h265.specs.Scan.{row_of, col_of, scan_at, place_above, above_at}
use Rattle.h265.specs.Strings.{bits, tb, flog, flog_aux, unary, prefix_of, suffixes, run_class}
use Rattle.syntax.specs.Replay.{reference, less_one}
use Rattle.model.specs.declared.PaletteRun.{PaletteRun}
use Rattle.rates.specs.declared.Pair.{Pair}
use Rattle.rates.specs.declared.RateModel.{RateModel}
use Rattle.rates.specs.Rates.{class_rates, rate_of, sum_of, tb_parts, suffix_parts, run_parts, run_rate, index_rate, share_rate}
use Rattle.paths.specs.Cells.{copies, lasts, index_length, above_length, draws_from, sent_from, stops_at}
use Rattle.paths.specs.Plan.{job, price_of, flag_rate, head_rate, draw_cost, copy_cost, relaxed, stopped, indexed, copied, stepped, swept, trail, run_to, runs_of, end_cost, last_kind, planned}

-- every rate r
abbrev flat : Float → RateModel
flat r = record { run_type = record { bin0 = r; bin1 = r }; run_prefix = replicate 8 (record { bin0 = r; bin1 = r }) }

abbrev index : ℕ → ℕ → ℕ → PaletteRun
index start cells sent = record { above = false; sent = sent; more = cells - 1; start = start }

abbrev above : ℕ → ℕ → PaletteRun
above start cells = record { above = true; sent = 0; more = cells - 1; start = start }

-- document 01's example: size 2, indices 0 1 1 0, all rates 1: 4.25 bits
pub example_2 : planned (job 2 4 1 (0 ∷ 1 ∷ 1 ∷ 0 ∷ []) (price_of (flat (number 1)) 1)) ≡ record { total = of_bits binary32 0x4088_0000; runs = index 0 1 0 ∷ index 1 1 0 ∷ above 2 2 ∷ [] }
unfolding row_of col_of scan_at place_above above_at bits tb flog flog_aux unary prefix_of suffixes run_class reference less_one class_rates rate_of sum_of tb_parts suffix_parts run_parts run_rate index_rate share_rate copies lasts index_length above_length draws_from sent_from stops_at flag_rate head_rate draw_cost copy_cost relaxed stopped indexed copied stepped swept trail run_to runs_of end_cost last_kind planned add lt div of_int of_bits
example_2 = refl

-- size 3, all rates 1: 17.5 bits; index 0 to 3, above 4 and then the same runs would cost 16.5, but no planner's path stops there
pub example_3 : planned (job 3 9 2 (0 ∷ 0 ∷ 0 ∷ 0 ∷ 0 ∷ 1 ∷ 0 ∷ 1 ∷ 0 ∷ []) (price_of (flat (number 1)) 2))
    ≡ record { total = of_bits binary32 0x418c_0000; runs = index 0 5 0 ∷ index 5 1 0 ∷ index 6 1 0 ∷ index 7 1 0 ∷ above 8 1 ∷ [] }
unfolding row_of col_of scan_at place_above above_at bits tb flog flog_aux unary prefix_of suffixes run_class reference less_one class_rates rate_of sum_of tb_parts suffix_parts run_parts run_rate index_rate share_rate copies lasts index_length above_length draws_from sent_from stops_at flag_rate head_rate draw_cost copy_cost relaxed stopped indexed copied stepped swept trail run_to runs_of end_cost last_kind planned add lt div of_int of_bits
example_3 = refl

-- all rates 0: both ends cost 1.125 bits, and the index run is taken
pub example_tie : planned (job 2 4 1 (0 ∷ 0 ∷ 0 ∷ 0 ∷ []) (price_of (flat (number 0)) 1)) ≡ record { total = of_bits binary32 0x3f90_0000; runs = index 0 4 0 ∷ [] }
unfolding row_of col_of scan_at place_above above_at bits tb flog flog_aux unary prefix_of suffixes run_class reference less_one class_rates rate_of sum_of tb_parts suffix_parts run_parts run_rate index_rate share_rate copies lasts index_length above_length draws_from sent_from stops_at flag_rate head_rate draw_cost copy_cost relaxed stopped indexed copied stepped swept trail run_to runs_of end_cost last_kind planned add lt div of_int of_bits
example_tie = refl
