-- `flatrecon::cell_colors`: with escapes on what the cells decode to, else their entries.
use mathlib.Core.Path.{◌∙◌}
use native.Mathlib.Omega.{arith}
use Rattle.levels.specs.Laws.{scale_fit}
use Rattle.flatrecon.specs.Cells.{cells-few, indexed, indexed-off, decoded, painted}
use Rattle.flatrecon.proofs.cell_colors.Goals as goal

pub entries_in-palette-requires : goal.entries_in-palette-requires
entries_in-palette-requires c = (c.requires.1.block, omega (arith, c.from.ensures, c.requires.1.entries))

pub scale_of-s-requires : goal.scale_of-s-requires
scale_of-s-requires c = c.requires.0

pub values-requires : goal.values-requires
values-requires c = let b = c.args.list.now in
    (rw c.scale_of-s.ensures (scale_fit c.args.c c.requires.0), c.requires.1.block, c.entries_in-palette.ensures.1, omega (arith, cells-few b c.requires.1), c.requires.3, c.requires.1.entries, indexed b c.requires.1 c.args.m c.requires.2)

pub returns-then-list-eq1 : goal.returns-then-list-eq1
returns-then-list-eq1 c = let s = c.args in rw c.scale_of-s.ensures at c.values.ensures ∙ decoded s.list.now c.requires.1 s.c _ (rw c.from.ensures at c.entries_in-palette.ensures.0) s.out.now s.m c.requires.2

pub paint-requires : goal.paint-requires
paint-requires c = let b = c.args.list.now in
    (c.requires.1.block, c.entries_in-palette.ensures.1, omega (arith, cells-few b c.requires.1), omega (arith, c.requires.3), indexed-off b c.requires.1 c.args.m c.requires.2 c.if-list-eq1.false)

pub returns-else-list-eq1 : goal.returns-else-list-eq1
returns-else-list-eq1 c = let s = c.args in c.paint.ensures ∙ painted s.list.now c.requires.1 s.c _ (rw c.from.ensures at c.entries_in-palette.ensures.0) s.out.now s.m c.requires.2 c.if-list-eq1.false
