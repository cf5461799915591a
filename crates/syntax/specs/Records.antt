-- The code's block record as the definitions take it: what the call lends, and what is sent.
use Rattle.std.specs.Prelude.{false, List, map, ℕ, ◌*◌, take}
use Rattle.model.specs.declared.PaletteCu.{PaletteCu}
use Rattle.syntax.specs.Runs.{Run}
use Rattle.syntax.specs.Block.{Entry, Call, Block}

-- what an array of runs holds past its end, for the logic
abbrev pub no_run : Run
no_run = record { above = false; sent = 0; more = 0; start = 0 }

abbrev pub call_of : ℕ → List Entry → PaletteCu → Call
call_of limit predictor cu = record {
  size = cu.size;
  format = cu.chroma_idc;
  luma = cu.bd_luma;
  chroma = cu.bd_chroma;
  lossless = cu.lossless;
  limit = limit;
  predictor = predictor;
}

abbrev pub block_of : PaletteCu → Block
block_of cu = record {
  colours = take cu.palette_size cu.palette;
  flags = take cu.pred_size cu.reused;
  signalled = cu.num_signaled;
  escape = cu.escape_present;
  transpose = cu.transpose;
  cells = take (cu.size * cu.size) cu.indices;
  levels = record {
    y = map (λ v. v.y) (take (cu.size * cu.size) cu.escapes);
    cb = map (λ v. v.cb) (take (cu.size * cu.size) cu.escapes);
    cr = map (λ v. v.cr) (take (cu.size * cu.size) cu.escapes);
  };
}
