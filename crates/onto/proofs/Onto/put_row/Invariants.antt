-- `Onto::put_row`. The loop's invariant: the samples passed are the block's.
use Rattle.std.proofs.Common.{◌≡◌, ℕ, ◌+◌, ◌<◌, get_or}
use Rattle.onto.specs.Laws.{from_cells, row_start, row_value}
use Rattle.onto.proofs.Onto.put_row.Given as goal

abbrev pub invariant-loop-k : goal.invariant-loop-k
invariant-loop-k l = (j : ℕ) → j < l.k → get_or l.sample-items j 0 ≡ row_value l.self (from_cells l.self l.values) l.y (row_start l.self l.y + j)
