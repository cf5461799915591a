-- `flatassign::Filling::cells`: the cells passed have their levels, and what they decode to is laid.
use Rattle.std.proofs.Common.{◌≡◌, length}
use Rattle.base.specs.Cells.{laid}
use Rattle.flatassign.specs.Filling.{cell_value, Fills}
use Rattle.flatassign.proofs.Filling.cells.Given as goal

abbrev pub invariant-loop-i : goal.invariant-loop-i
invariant-loop-i l = record {
  long : length l.list ≡ length l.initial.list;
  fills : Fills l.self.s l.self.palette.now l.self.n l.self.indices.now l.self.scan.now l.m l.initial.list l.i l.list;
  values : l.out ≡ laid (cell_value l.self.s l.self.palette.now l.self.n l.self.indices.now l.self.scan.now) l.initial.out 0 l.i;
}
