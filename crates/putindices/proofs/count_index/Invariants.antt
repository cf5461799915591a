-- `putindices::count_index`. The invariant: the index runs counted and those left make the whole.
use mathlib.Core.Path.{◌≡◌}
use Prim.Native.Nat.{◌+◌, ◌≤◌}
use lib.ListN.{length, drop}
use Rattle.flatplan.specs.Flat.{first_of}
use Rattle.syntax.specs.Runs.{sent_of}
use Rattle.putindices.proofs.count_index.Given as goal

abbrev pub invariant-loop-i : goal.invariant-loop-i
invariant-loop-i l = (l.k ≤ l.i) × (l.k + length (sent_of (drop l.i (first_of l.runs l.count))) ≡ length (sent_of (first_of l.runs l.count)))
