-- `flatready::over_four`: each is under the bits of all.
use Rattle.flatready.specs.Reach.{four-over}
use Rattle.flatready.proofs.over_four.Goals as goal

pub returns : goal.returns
returns c = four-over c.args.a c.args.b c.args.c c.args.d c.args.m _ _ _ _ c.saturating_sub.ensures c.saturating_sub-2.ensures c.saturating_sub-3.ensures c.saturating_sub-4.ensures
