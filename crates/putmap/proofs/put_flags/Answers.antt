-- `putmap::put_flags`
use native.Mathlib.Omega.{arith}
use Rattle.base.specs.Laid.{laid_then}
use Rattle.putmap.proofs.put_flags.Goals as goal

pub put_bin-q-requires : goal.put_bin-q-requires
put_bin-q-requires c = omega (arith, c.put_bin-p.ensures.next)

pub put_marker-requires : goal.put_marker-requires
put_marker-requires c = omega (arith, c.put_bin-p.ensures.next, c.put_bin-q.ensures.next)

pub returns : goal.returns
returns c = record { laid = laid_then (rw c.kind_byte.ensures at c.put_bin-p.ensures) (laid_then (rw c.turn_byte.ensures at c.put_bin-q.ensures) c.put_marker.ensures.laid); near = omega (arith, c.put_bin-p.ensures.next, c.put_bin-q.ensures.next, c.put_marker.ensures.near) }
