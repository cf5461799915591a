-- `whole::quiet`: one cell more, and 16 of them.
use Rattle.std.proofs.Common.{sym, refl, ◌∙◌, arith}
use Rattle.base.specs.Tests.{up_to-none}
use Rattle.domain.specs.Taken.{and_next}
use Rattle.whole.specs.Parts.{quiet_late, quiet_cells}
use Rattle.whole.proofs.quiet.Goals as goal

pub returns-then-n-i : goal.returns-then-n-i
returns-then-n-i c = quiet_late c.args.indices.now c.args.i c.args.n c.args.p (omega arith)

pub loop-x-init : goal.loop-x-init
loop-x-init c = sym (up_to-none _)

pub loop-x-preserved : goal.loop-x-preserved
loop-x-preserved c = and_next _ c.loop-x.x-index c.loop-x.ok _ c.loop-x.invariant refl

pub returns : goal.returns
returns c = let s = c.args in
    c.loop-x.invariant ∙ quiet_cells s.indices.now s.i s.n s.p c.loop-x.x-index (omega arith) (omega arith) (omega arith) (omega arith)
