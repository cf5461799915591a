-- When a block holds together, what fits a predictor to it, and what is read back of it: document 01's refusal 7 and demand 3.
use Rattle.std.specs.Prelude.{◌≡◌, ◌≢◌, Bool, true, false, List, [], ◌∷◌, ◌++◌, ℕ, zero, suc, ◌+◌, ◌*◌, ◌-◌, ◌≤◌, ◌<◌, ltb, length, take}
use Rattle.base.specs.Pick.{pick}
use Rattle.base.specs.Codes.{Each, All}
use Rattle.h265.specs.Strings.{bit}
use Rattle.h265.specs.Reuse.{trues}
use Rattle.syntax.specs.Runs.{Run}
use Rattle.syntax.specs.Replay.{Replays}
use Rattle.syntax.specs.Block.{Entry, Call, Levels, Block, Told, cells_in, chroma_depth, palette_of, luma_dues, chroma_dues, chosen}
use Rattle.syntax.specs.PaletteLaws.{Fits}
use Rattle.syntax.specs.LevelLaws.{InLevel}

-- M; 0 also for an empty palette
abbrev pub top_index : Block → ℕ
top_index b = length b.colours + bit b.escape - 1

pub record Whole (c : Call) (b : Block) : Type 0 where
  pub limit : length b.colours ≤ c.limit
  pub flags : length b.flags ≤ 128
  pub sum : trues b.flags + b.signalled ≡ length b.colours
  pub fits : All (Fits c) b.colours
  pub count : length b.cells ≡ cells_in c
  pub cells : All (λ x. x ≤ top_index b) b.cells
  pub y : Each (λ x v. x ≡ length b.colours → InLevel c.lossless c.luma v) b.cells b.levels.y
  pub cb : Each (λ x v. x ≡ length b.colours → c.format ≢ 0 → InLevel c.lossless c.chroma v) b.cells b.levels.cb
  pub cr : Each (λ x v. x ≡ length b.colours → c.format ≢ 0 → InLevel c.lossless c.chroma v) b.cells b.levels.cr
  pub empty : length b.colours ≡ 0 → (b.escape ≡ true) × (b.transpose ≡ false)

-- one flag for each entry of the predictor, and the palette starts with those that the flags mark
pub record Suits (c : Call) (b : Block) : Type 0 where
  pub flags : length b.flags ≡ length c.predictor
  pub colours : take (trues b.flags) b.colours ≡ chosen b.flags c.predictor

-- the runs replay to the block's indices, where there are runs at all
abbrev pub Runs : Call → Block → List Run → Type 0
Runs c b rs = 0 < top_index b → Replays c.size (cells_in c) (top_index b) b.cells 0 false rs

-- levels that are not sent read as 0
unfoldable pub keep_due : List Bool → List ℕ → List ℕ
keep_due [] vs = []
keep_due (d ∷ ds) [] = []
keep_due (d ∷ ds) (v ∷ vs) = pick d v 0 ∷ keep_due ds vs

-- a transpose flag that is not sent reads as off
abbrev pub turned_of : Block → Bool
turned_of b = pick (ltb 0 (top_index b)) b.transpose false

unfoldable pub read_back : Call → Block → List Run → Told
read_back c b rs = record {
  block = record {
    colours = b.colours;
    flags = b.flags;
    signalled = b.signalled;
    escape = b.escape;
    transpose = turned_of b;
    cells = b.cells;
    levels = record {
      y = keep_due (luma_dues (palette_of b) b.cells) b.levels.y;
      cb = keep_due (chroma_dues c (palette_of b) (turned_of b) b.cells) b.levels.cb;
      cr = keep_due (chroma_dues c (palette_of b) (turned_of b) b.cells) b.levels.cr;
    };
  };
  runs = pick (ltb 0 (top_index b)) rs [];
}
