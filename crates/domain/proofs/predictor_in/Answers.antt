-- `domain::predictor_in`: one entry more, and all of them.
use Rattle.std.proofs.Common.{sym, ◌∙◌, arith, le-leb}
use Rattle.base.specs.Tests.{up_to-none, pick_test}
use Rattle.model.specs.Domain.{predictor_in, color_in, no_color}
use Rattle.domain.specs.Taken.{and_next, all_taken}
use Rattle.domain.proofs.predictor_in.Goals as goal

pub loop-c-init : goal.loop-c-init
loop-c-init c = sym (up_to-none _)

pub loop-c-preserved : goal.loop-c-preserved
loop-c-preserved c = and_next _ c.loop-c.c-index c.loop-c.ok c.color_in-ok.result c.loop-c.invariant c.color_in-ok.ensures

pub returns : goal.returns
unfolding predictor_in
returns c = let p = c.args.p in
    let e = all_taken (color_in c.args.format c.args.luma c.args.chroma) no_color p.entries p.size c.loop-c.c-index (omega arith) (omega arith) (omega arith) in
    rw (le-leb _ _ c.if-p-gt128.false) (c.loop-c.invariant ∙ e ∙ sym (pick_test _))
