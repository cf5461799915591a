-- `analysis::tolerance_at`: a QP of at most 75.
use mathlib.Core.Path.{◌∙◌}
use mir.Facts.{to_z-of_z}
use mir.Syntax.{w32}
use Rattle.model.specs.ConfigLaws.{config_bounds}
use Rattle.analysis.proofs.tolerance_at.Goals as goal

pub step-requires : goal.step-requires
step-requires c = rw (to_z-of_z {w = w32} {z = c.args.c.qp_y} (record { sfits = c.struct_told-1.given.1.1.1.1.0.1 })) (config_bounds c.args.c c.requires).y

pub returns : goal.returns
returns c = let p = to_z-of_z {w = w32} {z = c.args.c.qp_y} (record { sfits = c.struct_told-1.given.1.1.1.1.0.1 }) in
    c.tolerance.ensures ∙ rw (c.step.ensures.0, p)
