-- `luma::luma_exceeds`: after some samples the flags mark their values, and the values met are counted. Assumes nothing.
use Rattle.std.proofs.Common.{◌≤◌}
use Rattle.census.specs.Census.{met_by}
use Rattle.luma.specs.Luma.{coarse, Flags}
use Rattle.luma.proofs.luma_exceeds.Given as goal

abbrev pub invariant-loop-key : goal.invariant-loop-key
invariant-loop-key l = (l.met ≤ l.limit) × Flags l.seen l.met (met_by (coarse l.shift) l.samples l.key-index)
