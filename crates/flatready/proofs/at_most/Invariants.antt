-- `flatready::at_most`. The loop's invariant: the places passed were tested.
use Rattle.std.proofs.Common.{◌≡◌, ◌+◌, leb}
use Rattle.base.specs.Tests.{up_to}
use Rattle.flat.specs.Flat.{number}
use Rattle.flatready.proofs.at_most.Given as goal

abbrev pub invariant-loop-x : goal.invariant-loop-x
invariant-loop-x l = l.ok ≡ up_to l.x-index (λ j. leb (number l.list (l.from + j)) l.m)
