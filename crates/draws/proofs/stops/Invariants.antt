-- `draws::stops`. The loop's invariant: the stops from q on are what is left of the stops from the first on.
use mathlib.Core.Path.{◌≡◌}
use Prim.Native.Nat.{◌-◌, ◌<◌}
use lib.Ieee.{binary32, add}
use Rattle.relax.specs.Table.{table_of}
use Rattle.relax.specs.Jumps.{length_from, halted}
use Rattle.draws.proofs.stops.Given as goal

abbrev pub invariant-loop-q : goal.invariant-loop-q
invariant-loop-q l = (l.s.p < l.q) × (halted l.end l.next l.end (λ i. add binary32 l.s.head (length_from l.sums.short l.sums.full l.s.row l.s.n l.s.p i)) l.s.p l.s.k l.q (table_of l.paths) ≡ halted l.end l.next l.end (λ i. add binary32 l.s.head (length_from l.sums.short l.sums.full l.s.row l.s.n l.s.p i)) l.s.p l.s.k l.first (table_of l.initial.paths))

abbrev pub decreases-loop-q : goal.decreases-loop-q
decreases-loop-q l = l.end - l.q
