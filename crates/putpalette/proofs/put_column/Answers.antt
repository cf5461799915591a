-- `putpalette::put_column`. The invariant: the entries that are left, laid from here on, make the whole.
use Prim.Native.Nat.{◌+◌, ◌*◌}
use native.Mathlib.Omega.{arith}
use Rattle.base.specs.Laid.{left-start, left-turn, left_end}
use Rattle.flat.specs.Flat.{number}
use Rattle.h265.specs.StringLaws.{length-bits}
use Rattle.putpalette.specs.Palette.{column-turn, column-end}
use Rattle.putpalette.proofs.put_column.Goals as goal

pub loop-i-init : goal.loop-i-init
loop-i-init c = (omega arith, left-start _ _ _)

pub loop-i-preserved : goal.loop-i-preserved
loop-i-preserved c = let b = c.loop-i in
    let g = c.args in
    let w = column-turn g.block.now g.to g.k g.depth c.requires.2 c.requires.3 b.i (omega arith) in (
      omega (arith, c.put_bits-p.ensures.next, length-bits g.depth (number g.block.now (16 + 3 * b.i + g.k))),
      left-turn _ c.put_bits-p.ensures (rw w at b.invariant.1),
    )

pub returns : goal.returns
returns c = let b = c.loop-i in
    let g = c.args in
    let w = column-end g.block.now g.to g.k g.depth c.requires.2 c.requires.3 b.i (omega arith) in
    record { laid = left_end (rw w at b.invariant.1); near = omega arith }
