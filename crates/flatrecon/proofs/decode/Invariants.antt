-- `flatrecon::decode`. The loop's invariant: what the cells passed decode to is laid.
use Rattle.std.proofs.Common.{◌≡◌, ◌-◌}
use Rattle.base.specs.Cells.{laid}
use Rattle.flatrecon.specs.Cells.{value_of}
use Rattle.flatrecon.proofs.decode.Given as goal

abbrev pub invariant-loop-j : goal.invariant-loop-j
invariant-loop-j l = l.out ≡ laid (value_of l.s l.palette l.list l.p) l.initial.out l.i (l.j - l.i)
