-- `flatrecon::values`. The loop's invariant: what the cells of the stretches passed decode to is laid.
use Rattle.std.proofs.Common.{◌≡◌, ◌*◌, min}
use Rattle.base.specs.Cells.{laid}
use Rattle.flatrecon.specs.Cells.{value_of}
use Rattle.flatrecon.proofs.values.Given as goal

abbrev pub invariant-loop-g : goal.invariant-loop-g
invariant-loop-g l = l.out ≡ laid (value_of l.s l.palette l.list l.p) l.initial.out 0 (min (16 * l.g) l.m)
