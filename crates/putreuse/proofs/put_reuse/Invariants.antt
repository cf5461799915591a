-- `putreuse::put_reuse`. The invariant: the reuse runs of the entries from `idx` on make the whole.
use Rattle.std.proofs.Common.{◌+◌, ◌-◌, ◌*◌, ◌≤◌, length, drop}
use Rattle.base.specs.Laid.{Left}
use Rattle.h265.specs.Reuse.{reuse_bins}
use Rattle.putreuse.proofs.put_reuse.Given as goal

abbrev pub invariant-loop : goal.invariant-loop
invariant-loop l = (l.idx ≤ length l.flags) × (l.to ≤ l.at + 33 * l.counter) × Left l.initial.list l.at (reuse_bins l.limit l.flags) l.list l.to (reuse_bins (l.limit - l.counter) (drop l.idx l.flags))
