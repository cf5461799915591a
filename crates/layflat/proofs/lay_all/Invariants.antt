-- `layflat::lay_all`. The loop's invariant: what is left makes the whole.
use Rattle.std.proofs.Common.{◌+◌, ◌*◌, ◌≤◌, drop}
use Rattle.std.specs.List.{flat_map}
use Rattle.base.specs.Laid.{Left}
use Rattle.layflat.proofs.lay_all.Given as goal

abbrev pub invariant-loop-x : goal.invariant-loop-x
invariant-loop-x g l = let f = g.T.Flat.numbers in (l.to ≤ l.at + 3 * l.x-index) × Left l.initial.list l.at (flat_map f l.all) l.list l.to (flat_map f (drop l.x-index l.all))
