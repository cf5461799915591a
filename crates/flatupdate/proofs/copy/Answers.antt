-- `flatupdate::copy`: one number more.
use Rattle.std.proofs.Common.{◌≡◌, ◌+◌, refl, sym, ◌∙◌, arith, length-set}
use Rattle.flatupdate.proofs.Part.{copy_start, copy_next, copy_end}
use Rattle.flatupdate.proofs.copy.Goals as goal

pub loop-i-init : goal.loop-i-init
loop-i-init c = (refl, copy_start c.args.list.now c.args.source.now c.args.to c.args.from c.args.n)

pub loop-i-preserved : goal.loop-i-preserved
loop-i-preserved c =
    let l = c.loop-i in
    (length-set l.list (c.args.to + l.i) _ ∙ l.invariant.0, copy_next l.list c.args.source.now c.args.to c.args.from c.args.n l.i (omega arith) (omega arith) ∙ l.invariant.1)

pub returns : goal.returns
returns c =
    let l = c.loop-i in
    sym (copy_end l.list c.args.source.now c.args.to c.args.from c.args.n l.i (omega arith)) ∙ l.invariant.1
