-- `flatready::band_ready`: every index an entry's, or none past the escape's and levels all in range.
use mathlib.Core.Path.{◌≡◌, sym}
use native.Mathlib.Omega.{arith}
use borrow.Author.Tests.{leb-true}
use Rattle.base.specs.Pick.{true_false}
use Rattle.flatready.specs.ReadyLaws.{band_plain, band_escaped}
use borrow.Author.Rules.{rules}
use Rattle.flatready.proofs.band_ready.Goals as goal

pub returns-then-reach-eq0 : goal.returns-then-reach-eq0
returns-then-reach-eq0 c = λ e. band_plain c.args.list.now c.args.n c.requires.4 c.requires.2 c.requires.3 c.args.i c.reach.result c.requires.1 c.reach.ensures c.if-reach-eq0.true

pub returns-then-reach-eq0-2 : goal.returns-then-reach-eq0-2
returns-then-reach-eq0-2 c = λ e.
    band_escaped c.args.list.now c.args.n c.requires.4 c.requires.2 c.requires.3 c.requires.5 c.if-list-eq1.true c.args.m c.requires.6 c.args.i c.reach-then-list-eq1.result c.reach-then-reach-eq0-2.result c.requires.1 c.reach-then-list-eq1.ensures c.if-reach-eq0-2.true c.reach-then-reach-eq0-2.ensures (leb-true _ _ e)

pub returns-else-reach-eq0-2 : goal.returns-else-reach-eq0-2
returns-else-reach-eq0-2 c = λ e. absurd (true_false (sym e))

pub returns-else-list-eq1 : goal.returns-else-list-eq1
returns-else-list-eq1 c = λ e. absurd (true_false (sym e))
