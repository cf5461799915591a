-- `putreuse::next_reused`. The invariant: what is passed over and what is to be passed over are the lead.
use Rattle.std.proofs.Common.{◌≡◌, ◌+◌, drop}
use Rattle.h265.specs.Reuse.{lead}
use Rattle.putreuse.proofs.next_reused.Given as goal

abbrev pub invariant-loop-i : goal.invariant-loop-i
invariant-loop-i l = l.i + lead (drop l.i l.flags) ≡ l.from + lead (drop l.from l.flags)
