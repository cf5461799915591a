-- `flatassign::clear_levels`: one cell more, and all of them.
use Rattle.std.proofs.Common.{◌≡◌, ◌∙◌, arith}
use Rattle.flatassign.specs.Filling.{clear_start, clear_turn}
use Rattle.flatassign.proofs.clear_levels.Goals as goal

pub loop-i-init : goal.loop-i-init
loop-i-init c = clear_start _

pub loop-i-preserved : goal.loop-i-preserved
loop-i-preserved c = c.put_levels.ensures ∙ clear_turn c.args.list.now c.loop-i.list c.loop-i.i (omega (arith, c.requires.1, c.loop-i-test.true)) c.loop-i.invariant

pub returns : goal.returns
returns c = let e : c.loop-i.i ≡ c.args.m = omega arith in rw e at c.loop-i.invariant
