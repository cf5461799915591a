-- `flatready::fit`: yes of all, or the test itself.
use mathlib.Core.Path.{sym}
use Prim.Native.Nat.{◌*◌}
use native.Mathlib.Omega.{arith}
use Rattle.flatready.specs.Reach.{under_up_to}
use Rattle.std.proofs.Common.{◌∙◌}
use borrow.Author.Tests.{le-leb}
use Rattle.flatready.proofs.fit.Goals as goal

pub returns-then-reach-m : goal.returns-then-reach-m
returns-then-reach-m c = le-leb _ _ c.if-reach-m.true ∙ sym (under_up_to c.args.list.now c.args.from c.args.n (4 * c.args.quarter) 0 c.reach.result c.args.m c.reach.ensures c.requires.3 (omega arith))

pub returns-else-reach-m : goal.returns-else-reach-m
returns-else-reach-m c = c.at_most.ensures
