-- `flatready::reused`. The loop's invariant: the flags counted and those left make the whole.
use Rattle.std.proofs.Common.{◌≡◌, ◌+◌, ◌≤◌, take, drop}
use Rattle.h265.specs.Reuse.{trues}
use Rattle.flat.specs.Flat.{block_of}
use Rattle.flatready.proofs.reused.Given as goal

abbrev pub invariant-loop-flag : goal.invariant-loop-flag
invariant-loop-flag l =
    (l.t ≤ l.flag-index) × (l.t + trues (drop l.flag-index (take l.count (block_of l.list).reused)) ≡ trues (take l.count (block_of l.list).reused))
