-- `assigning::with_cells`: the levels at the scale of the configuration.
use native.Mathlib.Omega.{arith}
use Rattle.levels.specs.Laws.{scale_fit}
use Rattle.assigning.proofs.with_cells.Goals as goal

pub levels-escapes-requires : goal.levels-escapes-requires
levels-escapes-requires c = (rw c.scale_of-s.ensures (scale_fit c.args.c c.requires.0), c.area-n.ensures.1, λ j h. c.requires.2 j (omega (arith, c.area-n.ensures.0)))
