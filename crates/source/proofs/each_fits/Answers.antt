-- `source::each_fits`: one colour more, and all of them.
use Rattle.std.proofs.Common.{◌≡◌, length, sym, arith}
use Rattle.base.specs.Tests.{up_to-none}
use Rattle.domain.specs.Taken.{and_next}
use Rattle.source.specs.Source.{all_fit}
use Rattle.source.proofs.each_fits.Goals as goal

pub loop-c-init : goal.loop-c-init
loop-c-init c = sym (up_to-none _)

pub loop-c-preserved : goal.loop-c-preserved
loop-c-preserved c = and_next _ c.loop-c.c-index c.loop-c.ok c.fit-ok.result c.loop-c.invariant c.fit-ok.ensures

pub returns : goal.returns
unfolding all_fit
returns c = let e : c.loop-c.c-index ≡ length c.args.cells.now = omega arith in rw e at c.loop-c.invariant
