-- `putescapes::put_cell`
use mathlib.Core.Path.{sym, ◌∙◌}
use Prim.Native.Nat.{◌+◌, ◌*◌}
use native.Mathlib.Omega.{arith}
use Rattle.base.specs.Laid.{laid_none}
use Rattle.flat.specs.Flat.{block_of}
use Rattle.syntax.specs.Block.{level_bins}
use Rattle.putescapes.specs.Cells.{level-at}
use Rattle.putescapes.proofs.put_cell.Goals as goal

pub due_at-requires : goal.due_at-requires
due_at-requires c = c.requires.0.least

pub put_level-requires : goal.put_level-requires
put_level-requires c = let g = c.args in (c.requires.3, omega (arith, c.type_inv.block (1360 + 3 * g.i + g.k)), c.requires.4)

pub returns-then-due_at : goal.returns-then-due_at
unfolding block_of level_bins
returns-then-due_at c = record { laid = rw (← c.byte-format.ensures, sym c.due_at.ensures ∙ c.if-due_at.true, level-at c.args.block.now c.args.k c.args.i c.requires.2 c.requires.1) c.put_level.ensures.laid; near = c.put_level.ensures.near }

pub returns : goal.returns
unfolding block_of level_bins
returns c = record { laid = rw (← c.byte-format.ensures, sym c.due_at.ensures ∙ c.if-due_at.false) (laid_none _ _); near = omega arith }
