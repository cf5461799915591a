-- `getescapes::column_at`: what was read, before what is left to read, is what was to be read.
use Rattle.std.proofs.Common.{◌≡◌, length, take, drop}
use Rattle.base.specs.Codes.{each_at}
use Rattle.base.specs.Prepend.{prepend}
use Rattle.syntax.specs.Block.{dues, level_at}
use Rattle.getescapes.specs.Read.{due_of}
use Rattle.getescapes.proofs.column_at.Given as goal

abbrev pub invariant-loop-i : goal.invariant-loop-i
invariant-loop-i l = record {
  room : length l.values ≡ 1024;
  left : prepend (take l.i l.values) (each_at (level_at l.cells.lossless l.depth) (dues (due_of l.cells.escape l.cells.format l.cells.size l.cells.turned l.k) l.cells.e l.i (drop l.i l.cells.indices.now)) l.reader.list.now l.reader.at) ≡ each_at (level_at l.cells.lossless l.depth) (dues (due_of l.cells.escape l.cells.format l.cells.size l.cells.turned l.k) l.cells.e 0 l.cells.indices.now) l.fn.reader.list.now l.fn.reader.at;
  list : l.reader.list ≡ l.fn.reader.list;
}
