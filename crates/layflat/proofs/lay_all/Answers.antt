-- `layflat::lay_all`: one element more.
use Rattle.std.proofs.Common.{arith, ◌+◌, drop}
use Rattle.std.specs.List.{flat_map}
use Rattle.base.specs.Laid.{left-turn}
use Rattle.layflat.specs.Numbers.{left_more}
use Rattle.layflat.proofs.lay_all.Goals as goal

pub loop-x-preserved : goal.loop-x-preserved
loop-x-preserved g c =
    let f = g.T.Flat in
    let l = c.loop-x in
    let xs = c.args.all.now in
    let d = c.lay-to.ensures in (
      omega (arith, d.next, f.few c.x-item.result),
      left-turn (flat_map f.numbers (drop (l.x-index + 1) xs)) d (rw (left_more f.numbers xs l.x-index c.x-item.result (omega arith), ← c.x-item.is) at l.invariant.1),
    )
