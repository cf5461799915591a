-- `flat::read_escapes`. The loop's invariant: the places passed, four for each turn, are laid.
use Rattle.std.proofs.Common.{arith, ℕ, ◌+◌, ◌*◌, sym}
use Rattle.base.specs.Cells.{laid_none, laid_done}
use Rattle.flat.specs.Flat.{levels_at}
use Rattle.flat.specs.FlatLaws.{laid-four}
use Rattle.flat.proofs.read_escapes.Goals as goal

pub loop-k-init : goal.loop-k-init
loop-k-init c = sym (laid_none _ _ _)

pub loop-k-preserved : goal.loop-k-preserved
loop-k-preserved c = let l = c.loop-k in
    let f : ℕ → _ = λ (j : ℕ). levels_at c.args.list.now (1360 + 3 * j) in
    laid-four f c.args.out.now _ l.k _ _ _ _ l.invariant c.levels_in-a.ensures c.levels_in-b.ensures c.levels_in-c.ensures c.levels_in-d.ensures

pub returns : goal.returns
returns c = laid_done _ _ _ _ _ _ c.loop-k.invariant (omega arith)
