-- `putindices::put_indices`. The invariant: the bins of the indices that are left, laid from here on, make the whole.
use Prim.Native.Nat.{◌+◌, ◌-◌, ◌*◌, ◌≤◌}
use lib.ListN.{drop}
use Rattle.base.specs.Codes.{each_bins, Each}
use Rattle.base.specs.Laid.{Left}
use Rattle.flatplan.specs.Flat.{first_of}
use Rattle.h265.specs.Strings.{tb}
use Rattle.syntax.specs.Block.{alphabets}
use Rattle.syntax.specs.MapLaws.{Under}
use Rattle.syntax.specs.Runs.{sent_of}
use Rattle.putindices.proofs.put_indices.Given as goal

abbrev pub invariant-loop-i : goal.invariant-loop-i
invariant-loop-i l = (l.k ≤ l.i) × (l.to ≤ l.at + 32 * l.i) × Each Under (drop l.k (alphabets l.m (l.total - 1))) (sent_of (drop l.i (first_of l.runs l.count))) × Left l.initial.list l.at (each_bins tb (alphabets l.m (l.total - 1)) (sent_of (first_of l.runs l.count))) l.list l.to (each_bins tb (drop l.k (alphabets l.m (l.total - 1))) (sent_of (drop l.i (first_of l.runs l.count))))
