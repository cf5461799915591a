-- `putreuse::next_reused`: one flag more.
use Rattle.std.proofs.Common.{arith, false, ◌+◌, drop, get_or, drop_of_length-le}
use Rattle.std.proofs.lemmas.List.{drop_more}
use Rattle.h265.proofs.ReuseLaws.{lead-here, lead-next, lead-end}
use Rattle.putreuse.proofs.next_reused.Goals as goal

pub returns-then-flags-i : goal.returns-then-flags-i
returns-then-flags-i c =
    let b = c.loop-i in
    let xs = c.args.flags.now in
    let z = lead-here (get_or xs b.i false) (drop (b.i + 1) xs) c.if-flags-i.true in
    omega (arith, rw (← drop_more xs b.i false (omega arith)) at z)

pub loop-i-preserved : goal.loop-i-preserved
loop-i-preserved c =
    let b = c.loop-i in
    let xs = c.args.flags.now in
    let z = lead-next (get_or xs b.i false) (drop (b.i + 1) xs) c.if-flags-i.false in
    omega (arith, rw (← drop_more xs b.i false (omega arith)) at z)

pub returns : goal.returns
returns c =
    let b = c.loop-i in
    let xs = c.args.flags.now in
    omega (arith, rw (← drop_of_length-le xs {i = b.i} (omega arith)) at lead-end)
