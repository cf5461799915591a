-- `source::joined`: no component passed is greater.
use Rattle.source.specs.Joined.{Above}
use Rattle.source.proofs.joined.Given as goal

abbrev pub invariant-loop-c : goal.invariant-loop-c
invariant-loop-c l = Above l.cells l.c-index l.all
