-- `putescapes::quiet`: each cell is tested.
use Rattle.std.proofs.Common.{ℕ, ◌+◌, ◌-◌, arith, sym, drop, ◌∙◌}
use Rattle.std.proofs.lemmas.List.{length-take, length-drop}
use Rattle.base.specs.Tests.{up_to-none, up_to-next, and_pick}
use Rattle.putescapes.specs.Cells.{quiet_sliced}
use Rattle.putescapes.proofs.quiet.Goals as goal

pub bounds-block-5 : goal.bounds-block-5
bounds-block-5 c = omega (arith, c.requires.0)

pub loop-x-init : goal.loop-x-init
loop-x-init c = sym (up_to-none _)

pub loop-x-preserved : goal.loop-x-preserved
loop-x-preserved c = let l = c.loop-x in and_pick l.ok _ ∙ rw l.invariant (sym (up_to-next _ l.x-index))

pub returns : goal.returns
returns c =
    let xs = drop (336 + c.args.i) c.args.block.now in
    let n : ℕ = 352 + c.args.i - (336 + c.args.i) in
    λ t. quiet_sliced c.args.block.now c.args.i n c.loop-x.x-index (omega arith) (omega (arith, length-take n xs, length-drop (336 + c.args.i) c.args.block.now)) (sym c.loop-x.invariant ∙ t)
