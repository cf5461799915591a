-- `flatassign::Filling::cells`: one cell more, and all of them.
use Rattle.std.proofs.Common.{◌≡◌, refl, sym, ◌∙◌, arith}
use Rattle.base.specs.Cells.{laid_none, laid_on_lem, laid_done}
use Rattle.flatassign.specs.Filling.{cell_value, fill_start, fill_turn}
use Rattle.flatassign.proofs.Filling.cells.Goals as goal

pub loop-i-init : goal.loop-i-init
loop-i-init c = let s = c.args.self.now in record { long = refl; fills = fill_start s.s s.palette.now s.n s.indices.now s.scan.now c.args.m c.args.list.now; values = sym (laid_none _ _ _) }

pub cell-requires : goal.cell-requires
cell-requires c = (c.requires.0, c.requires.4 c.loop-i.i c.loop-i-test.true, c.requires.2, omega (arith, c.loop-i.invariant.long, c.requires.3), omega (arith, c.loop-i-test.true, c.requires.1))

pub loop-i-preserved : goal.loop-i-preserved
loop-i-preserved c = let s = c.args.self.now in
    let l = c.loop-i in
    record {
      long = c.cell.auto.list ∙ l.invariant.long;
      fills = fill_turn s.s s.palette.now s.n s.indices.now s.scan.now c.args.m c.args.list.now l.list _ l.i c.loop-i-test.true c.requires.1 l.invariant.fills c.cell.ensures.1;
      values = laid_on_lem (cell_value s.s s.palette.now s.n s.indices.now s.scan.now) c.args.out.now l.out l.i c.cell.result l.invariant.values c.cell.ensures.0;
    }

pub returns : goal.returns
returns c = let l = c.loop-i in
    let e : l.i ≡ c.args.m = omega arith in
    (rw e at l.invariant.fills, laid_done _ _ _ _ _ _ l.invariant.values e)
