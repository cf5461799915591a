-- `onto::put_plane`. The loop's invariant: the rows passed are put.
use Rattle.std.proofs.Common.{◌≡◌}
use Rattle.onto.specs.Laws.{from_cells, rows_put}
use Rattle.onto.proofs.put_plane.Given as goal

abbrev pub invariant-loop-y : goal.invariant-loop-y
invariant-loop-y l = l.plane ≡ rows_put l.o (from_cells l.o l.values) l.initial.plane l.y
