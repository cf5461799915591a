-- DEMAND 3, in definitions: what is said of planned runs, of what is written and of what is read back. The provisos on block and predictor are `Ready`, in crates/eyes.
use Rattle.std.specs.Prelude.{Bool, true, false, List, [], ◌∷◌, ◌++◌, ◌≡◌, ℕ, ◌+◌, ◌*◌, ◌≤◌, ◌<◌, ltb, leb, eqb, length, take, drop, get_or}
use Rattle.base.specs.Codes.{All}
use Rattle.base.specs.Pick.{pick}
use Rattle.base.specs.Tests.{every}
use Rattle.model.specs.Whole.{max_index, no_levels}
use Rattle.model.specs.declared.Levels.{Levels}
use Rattle.model.specs.declared.PaletteCu.{PaletteCu}
use Rattle.model.specs.declared.PalettePredictor.{PalettePredictor}
use Rattle.plan.specs.Planned.{Plan}
use Rattle.plan.specs.Answer.{answer_for, plan_of}
use Rattle.planlist.specs.After.{count_of}
use Rattle.rates.specs.declared.RateModel.{RateModel}
use Rattle.read.specs.Reading.{read_of}
use Rattle.readblock.specs.Read.{BlockRead}
use Rattle.syntax.specs.Block.{chroma_due}
use Rattle.syntax.specs.Records.{call_of}
use Rattle.syntax.specs.ReplayLaws.{First}
use Rattle.syntax.specs.Runs.{Run, sent_of}
use Rattle.write.specs.Write.{bins_of, write_of, list_after}
use Rattle.write.specs.Written.{Written}

-- ---- a plan's runs

-- how many runs of a list hold place i of the scan
unfoldable pub holding : ℕ → List Run → ℕ
holding i [] = 0
holding i (r ∷ rs) = pick (every (leb r.start i ∷ leb i (r.start + r.more) ∷ [])) 1 0 + holding i rs

-- no run that copies from above stands straight after another that does
abbrev pub Apart : List Run → Type 0
Apart [] = Unit {0}
Apart (r ∷ []) = Unit {0}
Apart (r ∷ s ∷ rs) = (r.above ≡ true → s.above ≡ false) × Apart (s ∷ rs)

pub record Covers (cu : PaletteCu) (rs : List Run) : Type 0 where
  -- each cell of the scan is held by one run, and none goes past the scan
  pub once : (i : ℕ) → i < cu.size * cu.size → holding i rs ≡ 1
  pub past : (i : ℕ) → cu.size * cu.size ≤ i → holding i rs ≡ 0
  -- none copies from above in the first row
  pub row : All (λ r. r.above ≡ true → cu.size ≤ r.start) rs
  -- or straight after another that did
  pub apart : Apart rs
  -- each index sent is below its alphabet: M + 1 for the first, M for each later one
  pub below : First (max_index cu) (sent_of rs)

-- ---- what is read back

-- cell i is an escape
abbrev pub escaped : PaletteCu → ℕ → Bool
escaped cu i = eqb (get_or cu.indices i 0) cu.palette_size

-- the levels of cell i that are sent, luma's at an escape and chroma's where a chroma sample stands as well; what is not sent is 0
unfoldable pub levels_sent : PaletteCu → ℕ → Levels
levels_sent cu i =
    let chroma : Bool = every (escaped cu i ∷ chroma_due (call_of 64 [] cu) cu.transpose i ∷ []) in
    record {
      y = pick (escaped cu i) (get_or cu.escapes i no_levels).y 0;
      cb = pick chroma (get_or cu.escapes i no_levels).cb 0;
      cr = pick chroma (get_or cu.escapes i no_levels).cr 0;
    }

-- with M = 0 neither transpose flag nor runs are sent
unfoldable pub transpose_sent : PaletteCu → Bool
transpose_sent cu = pick (ltb 0 (max_index cu)) cu.transpose false

unfoldable pub runs_sent : PaletteCu → List Run → List Run
runs_sent cu rs = pick (ltb 0 (max_index cu)) rs []

-- the block x is what is read of a block
pub record Same (cu x : PaletteCu) : Type 0 where
  -- the palette
  pub entries : x.palette_size ≡ cu.palette_size
  pub palette : take cu.palette_size x.palette ≡ take cu.palette_size cu.palette
  pub signalled : x.num_signaled ≡ cu.num_signaled
  pub escape : x.escape_present ≡ cu.escape_present
  -- the flags
  pub predictors : x.pred_size ≡ cu.pred_size
  pub flags : take cu.pred_size x.reused ≡ take cu.pred_size cu.reused
  -- the index at every cell
  pub indices : (i : ℕ) → i < cu.size * cu.size → get_or x.indices i 0 ≡ get_or cu.indices i 0
  -- the escape levels sent
  pub levels : (i : ℕ) → i < cu.size * cu.size → get_or x.escapes i no_levels ≡ levels_sent cu i
  -- transpose if sent
  pub transpose : x.transpose ≡ transpose_sent cu
  -- what the call lends: size, format, depths, lossless flag
  pub size : x.size ≡ cu.size
  pub format : x.chroma_idc ≡ cu.chroma_idc
  pub luma : x.bd_luma ≡ cu.bd_luma
  pub chroma : x.bd_chroma ≡ cu.bd_chroma
  pub lossless : x.lossless ≡ cu.lossless
  -- and what is not sent at all is 0
  pub tolerance : x.tolerance ≡ 0
  pub figure : x.sse ≡ 0

-- the reader's answer r on the bins, so many of them, of a block and its runs
pub record Back (cu : PaletteCu) (rs : List Run) (bins : ℕ) (r : BlockRead) : Type 0 where
  pub accepted : r.refusal ≡ 0
  -- the block
  pub block : Same cu r.cu
  -- its runs
  pub count : r.count ≡ length (runs_sent cu rs)
  pub runs : take r.count r.runs ≡ runs_sent cu rs
  -- exactly those bins used
  pub used : r.used ≡ bins

-- ---- writing and reading: runs are `count` of a list, `list` is the bin list lent to the writer, `space` the length of the run list lent to the reader

module _ (cu : PaletteCu) (p : PalettePredictor) (runs : List Run) (count : ℕ) (list : List ℕ) (space : ℕ) (rest : List ℕ) where
  -- write_palette_cu's answer, and the list after it
  abbrev pub wrote : Written
  wrote = write_of cu runs count (length list)

  abbrev pub after : List ℕ
  after = list_after cu runs count list

  -- read_palette_cu's answer on the writer's bins, with that predictor, whatever bins follow them
  abbrev pub read : BlockRead
  read = read_of cu.size cu.chroma_idc cu.bd_luma cu.bd_chroma cu.lossless p space (take wrote.bins after ++ rest)

  pub record WriteRead : Type 0 where
    -- nothing is refused, and the answer is the number of the block's bins
    pub written : wrote ≡ record { refusal = 0; bins = length (bins_of cu (take count runs)) }
    -- they stand at the start of the list, and what stood behind them still does
    pub laid : after ≡ bins_of cu (take count runs) ++ drop wrote.bins list
    -- what is read
    pub back : Back cu (take count runs) wrote.bins read

-- ---- planning, writing and reading: `room` is the length of the run list lent to the planner

module _ (cu : PaletteCu) (p : PalettePredictor) (m : RateModel) (room : ℕ) (list : List ℕ) (space : ℕ) (rest : List ℕ) where
  -- plan_runs' answer, with how many runs
  abbrev pub plan : Plan
  plan = plan_of cu m room

  abbrev pub count : ℕ
  count = count_of plan.answer

  pub record RoundTrip : Type 0 where
    -- nothing to code where M is 0, else the runs and their total: no refusal
    pub answered : plan.answer ≡ answer_for cu m
    -- if M > 0 the planned runs cover the scan once, none copies from above in the first row or straight after another that did, each index sent is below its alphabet
    pub covers : 0 < max_index cu → Covers cu (take count plan.runs)
    -- they are written, and read back
    pub trip : WriteRead cu p plan.runs count list space rest
