-- `replay::replay_runs`: replaying the runs that are left onto the cells so far makes the whole.
use Rattle.std.proofs.Common.{◌≡◌, ◌≤◌, false, [], length, take, drop, replicate}
use Rattle.base.specs.Codes.{All}
use Rattle.syntax.specs.Runs.{Keeps}
use Rattle.syntax.specs.Replay.{replay}
use Rattle.replay.specs.Into.{Short}
use Rattle.replay.proofs.replay_runs.Given as goal

abbrev pub invariant-loop-r : goal.invariant-loop-r
invariant-loop-r l = (l.scan ≤ l.n) × (length l.cells ≡ 1024) × Keeps l.size l.n l.scan l.prev (drop l.r-index l.runs) × All Short (drop l.r-index l.runs) × (replay l.size l.prev (take l.scan l.cells) (drop l.r-index l.runs) ≡ replay l.size false [] l.runs) × (drop l.scan l.cells ≡ drop l.scan (replicate 1024 0))
