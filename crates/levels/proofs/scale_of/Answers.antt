-- `levels::scale_of`: steps of QPs up to 75, greatest samples of at most 12 bits.
use mathlib.Core.Path.{◌≡◌}
use Prim.Native.Nat.{min}
use native.Mathlib.Omega.{arith}
use mir.Facts.{to_z-of_z}
use mir.Syntax.{w32}
use Rattle.model.specs.Domain.{most}
use Rattle.model.specs.ConfigLaws.{depth-most, config_bounds}
use Rattle.levels.specs.Levels.{scale_of}
use Rattle.levels.proofs.scale_of.Goals as goal

pub step-sy-requires : goal.step-sy-requires
step-sy-requires c = rw (to_z-of_z {w = w32} {z = c.args.c.qp_y} (record { sfits = c.struct_told-1.given.1.1.1.1.0.1 })) (config_bounds c.args.c c.requires).y

pub step-su-requires : goal.step-su-requires
step-su-requires c = rw (to_z-of_z {w = w32} {z = c.args.c.qp_cb} (record { sfits = c.struct_told-1.given.1.1.1.1.1.0.1 })) (config_bounds c.args.c c.requires).cb

pub step-sv-requires : goal.step-sv-requires
step-sv-requires c = rw (to_z-of_z {w = w32} {z = c.args.c.qp_cr} (record { sfits = c.struct_told-1.given.1.1.1.1.1.1.0.1 })) (config_bounds c.args.c c.requires).cr

pub returns : goal.returns
unfolding scale_of
returns c = let a = c.args.c in
    let b = config_bounds a c.requires in
    let p = to_z-of_z {w = w32} {z = a.qp_y} (record { sfits = c.struct_told-1.given.1.1.1.1.0.1 }) in
    let q = to_z-of_z {w = w32} {z = a.qp_cb} (record { sfits = c.struct_told-1.given.1.1.1.1.1.0.1 }) in
    let r = to_z-of_z {w = w32} {z = a.qp_cr} (record { sfits = c.struct_told-1.given.1.1.1.1.1.1.0.1 }) in
    let y : min 65535 (most a.bd_luma) ≡ most a.bd_luma = omega (arith, depth-most a.bd_luma b.luma) in
    let u : min 65535 (most a.bd_chroma) ≡ most a.bd_chroma = omega (arith, depth-most a.bd_chroma b.chroma) in
    rw (c.step-sy.ensures.0, c.step-su.ensures.0, c.step-sv.ensures.0, c.from-ym.ensures, c.from-cm.ensures, c.most_in.ensures, c.most_in-2.ensures, p, q, r, y, u)
