-- What the laws of the whole block ask of what is sent.
use Rattle.std.specs.Prelude.{◌≡◌, refl, Bool, true, false, ℕ, zero, suc, ◌+◌, ◌*◌, ◌-◌, ◌≤◌, ◌<◌, length, take, drop, replicate}
use Rattle.std.proofs.Math.Path.{ap}
use Rattle.std.proofs.Common.{sym, ◌∙◌, mul-le-mul, zero-add, arith, drop_at, take_at}
use mathlib.Core.List.{List, [], ◌∷◌, ◌++◌}
use Rattle.h265.specs.Reuse.{trues}
use Rattle.syntax.specs.Block.{Call, Sent, Told, cells_in, colours, max_index, cells_sent, chosen, sent_of_told}
use Rattle.syntax.specs.PaletteLaws.{PaletteOk}
use Rattle.syntax.specs.MapLaws.{MapOk}
use Rattle.syntax.specs.LevelLaws.{LevelsOk}

pub record SentOk (c : Call) (s : Sent) : Type 0 where
  pub palette : PaletteOk c s.palette
  pub map : MapOk c.size (cells_in c) (max_index s.palette) s.map
  pub levels : LevelsOk c s.palette s.map.turned (cells_sent c s) s.levels

-- ---- the block's record

-- what the reader can tell of a block: what was sent keeps the rules, and the rest follows from it and the predictor
pub record ToldOk (c : Call) (t : Told) : Type 0 where
  pub sent : SentOk c (sent_of_told t)
  pub colours : t.block.colours ≡ chosen t.block.flags c.predictor ++ drop (trues t.block.flags) t.block.colours
  pub signalled : t.block.signalled ≡ length (drop (trues t.block.flags) t.block.colours)
  pub cells : t.block.cells ≡ cells_sent c (sent_of_told t)
