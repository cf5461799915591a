-- `putescapes::put_levels`. The invariant: the levels that are left, laid from here on, make the whole.
use mathlib.Core.Path.{refl, ◌∙◌}
use Prim.Native.Nat.{◌+◌}
use native.Mathlib.Omega.{arith}
use Rattle.base.specs.Laid.{left-start, left-turn, left_end}
use Rattle.putescapes.specs.Cells.{levels-here, levels-past, levels-none}
use Rattle.putescapes.proofs.put_levels.Goals as goal

pub next_escape-i-requires : goal.next_escape-i-requires
next_escape-i-requires c = (c.requires.0.block, omega arith, c.requires.1)

pub loop-i-init : goal.loop-i-init
loop-i-init c = let g = c.args in
    let x = c.next_escape-i.ensures in
    (x.most, omega arith, refl, x.here, rw (levels-past g.block.now g.k g.depth g.n c.requires.1 c.requires.0.entries 0 c.next_escape-i.result (omega arith) x.most x.none) (left-start _ _ _))

pub put_cell-p-requires : goal.put_cell-p-requires
put_cell-p-requires c = (c.requires.0, omega arith, c.requires.2, c.requires.3, omega arith)

pub overflow_add-i : goal.overflow_add-i
overflow_add-i c = omega arith

pub next_escape-i-requires-in-loop-i : goal.next_escape-i-requires-in-loop-i
next_escape-i-requires-in-loop-i c = (c.requires.0.block, omega arith, c.requires.1)

pub loop-i-smaller : goal.loop-i-smaller
loop-i-smaller c = omega arith

pub loop-i-preserved : goal.loop-i-preserved
loop-i-preserved c = let b = c.loop-i in
    let g = c.args in
    let x = c.next_escape-i-in-loop-i.ensures in
    let w = levels-here g.block.now g.k g.depth g.n c.requires.1 c.requires.0.entries b.i (omega arith) (b.invariant.3 (omega arith)) in
    let s = levels-past g.block.now g.k g.depth g.n c.requires.1 c.requires.0.entries (b.i + 1) c.next_escape-i-in-loop-i.result x.from x.most x.none in (
      x.most,
      omega (arith, c.put_cell-p.ensures.near, x.from),
      c.put_cell-p.auto.list ∙ b.invariant.2,
      x.here,
      rw s at (left-turn _ c.put_cell-p.ensures.laid (rw w at b.invariant.4)),
    )

pub returns : goal.returns
returns c = let b = c.loop-i in
    let g = c.args in
    let w = levels-none g.block.now g.k g.depth g.n c.requires.1 c.requires.0.entries b.i (omega arith) in
    record { laid = left_end (rw w at b.invariant.4); near = omega (arith, c.requires.1) }
