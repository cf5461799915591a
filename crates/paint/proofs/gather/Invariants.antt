-- `paint::gather`: after i turns i colours are gathered. Assumes nothing.
use Rattle.std.proofs.Common.{◌≡◌, length, map, take}
use Rattle.paint.specs.Paint.{colour_in}
use Rattle.paint.proofs.gather.Given as goal

abbrev pub invariant-loop-i : goal.invariant-loop-i
invariant-loop-i l = (length l.out ≡ 128) × (take l.i l.out ≡ map (colour_in l.met) (take l.i l.order))
