-- Document 01's file of 65 bytes, and the four lines that are printed of it: computed by the definition.
use Rattle.std.specs.Prelude.{◌≡◌, refl, List, [], ◌∷◌, ℕ}
use Rattle.base.specs.Codes.{each_at}
use Rattle.h265.specs.Parse.{bin_at, bits_from, ones_from, egk_at, held, tb_at, unary_at, rice_at, count_at, suffix_at, run_at, marker_at}
use Rattle.h265.specs.Reuse.{trues, reuse_at}
use Rattle.h265.specs.Scan.{row_of, col_of, scan_at, place_above, above_at}
use Rattle.h265.specs.Strings.{flog, flog_aux, run_class, suffixes}
use Rattle.model.specs.Domain.{depth_in, size_in, even_in, predictor_in}
use Rattle.syntax.specs.Block.{entries, signalled_at, entries_at, palette_at, indices_at, coded_at, map_at, cells_of, dues, level_at, levels_at, sent_at, chosen, told_by, read_block}
use Rattle.syntax.specs.Replay.{reference, copy_cells, index_of, replay}
use Rattle.syntax.specs.Runs.{kind_at, asked, inferred, next_sent, more_at, runs_at}
use Rattle.read.specs.Reading.{formats_in, sizes_in, read_refusal, read_answer}
use Rattle.digits.specs.Decimal.{decimal_aux, decimal}
use Rattle.layout.specs.Layout.{half_at, word_at, laid_out, entry_at, predictor_of}
use Rattle.layout.specs.Layout as Y
use Rattle.lines.specs.Lines.{refused_line, block_line, run_line, run_lines}
use Rattle.lines.specs.Text.{codes}
use Rattle.listing.specs.Listing.{reading_of, told_of, listing_of}

abbrev word : ℕ → List ℕ → List ℕ
word n l = n ∷ 0 ∷ 0 ∷ 0 ∷ l

-- size 2, format 0, 8 bits, no predictor, 29 bins
unfoldable pub file_2 : List ℕ
file_2 =
    word 2 (word 0 (word 8 (word 8 (word 0 (word 0 (word 36 (word 29 (word 36
    (1 ∷ 0 ∷ 1
    ∷ 0 ∷ 0 ∷ 0 ∷ 0 ∷ 1 ∷ 0 ∷ 1 ∷ 0
    ∷ 1 ∷ 1 ∷ 0 ∷ 0 ∷ 1 ∷ 0 ∷ 0 ∷ 0
    ∷ 0
    ∷ 0 ∷ 0 ∷ 0 ∷ 1
    ∷ 0 ∷ 3 ∷ 4 ∷ 6 ∷ 6 ∷ [])))))))))

pub listing_2 : listing_of file_2 ≡ codes "block 2 palette 2 escape 0 transpose 0 bins 29\nindex 0 1 0\nindex 1 1 0\nabove 2 2\n"
unfolding file_2 listing_of reading_of told_of read_answer read_refusal formats_in sizes_in depth_in size_in even_in predictor_in Rattle.base.specs.Tests.up_to laid_out word_at half_at predictor_of Y.entries_at entry_at refused_line block_line run_line run_lines decimal decimal_aux read_block sent_at palette_at reuse_at signalled_at entries_at trues each_at bits_from bin_at egk_at ones_from held entries map_at coded_at indices_at count_at rice_at unary_at tb_at flog flog_aux runs_at kind_at asked inferred next_sent more_at run_at run_class suffix_at suffixes levels_at dues level_at cells_of replay copy_cells place_above scan_at row_of col_of above_at index_of reference told_by chosen marker_at
listing_2 = refl
