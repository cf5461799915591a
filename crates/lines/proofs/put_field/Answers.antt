-- `lines::put_field`: the text, then the number.
use native.Mathlib.Omega.{arith}
use Rattle.base.specs.Laid.{laid_then}
use Rattle.lines.proofs.put_field.Goals as goal

pub returns : goal.returns
returns c = record { laid = laid_then c.put_text-to.ensures c.put_decimal.ensures.laid; near = omega (arith, c.put_text-to.ensures.next, c.put_decimal.ensures.near) }
