-- `recon::none_escape`: the test of one index more.
use Rattle.std.proofs.Common.{◌∙◌, sym}
use Rattle.base.specs.Tests.{up_to-none, up_to-next, and_pick}
use Rattle.recon.proofs.none_escape.Goals as goal

pub loop-k-init : goal.loop-k-init
loop-k-init c = sym (up_to-none _)

pub loop-k-preserved : goal.loop-k-preserved
loop-k-preserved c = let l = c.loop-k in and_pick l.ok _ ∙ rw (c.from.ensures, l.invariant) (sym (up_to-next _ l.k-index))
