-- `putpalette::put_column`. The invariant: the entries that are left, laid from here on, make the whole.
use Prim.Native.Nat.{◌+◌, ◌-◌, ◌*◌, ◌≤◌}
use lib.ListN.{take, drop, replicate}
use Rattle.base.specs.Codes.{each_bins}
use Rattle.base.specs.Laid.{Left}
use Rattle.flat.specs.Flat.{block_of}
use Rattle.h265.specs.Strings.{bits}
use Rattle.syntax.specs.Block.{column}
use Rattle.putpalette.specs.Palette.{part}
use Rattle.putpalette.proofs.put_column.Given as goal

abbrev pub invariant-loop-i : goal.invariant-loop-i
invariant-loop-i l = (l.p + 32 * l.from ≤ l.at + 32 * l.i) × Left l.initial.list l.at (each_bins bits (replicate (l.to - l.from) l.depth) (column (part l.k) (drop l.from (take l.to (block_of l.block).palette)))) l.list l.p (each_bins bits (replicate (l.to - l.i) l.depth) (column (part l.k) (drop l.i (take l.to (block_of l.block).palette))))
