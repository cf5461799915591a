-- `predictor::renewed`: an old entry that was reused is passed, any other stands after those there.
use Rattle.std.proofs.Common.{◌<◌, take, ◌∙◌, arith, get_or-take}
use Rattle.model.specs.Domain.{no_color}
use Rattle.predictor.specs.UpdateLaws.{first_filling, first-cut, renewing_passed, renewing_kept, renewing_full, renewing_end}
use Rattle.predictor.proofs.renewed.Goals as goal

pub loop-j-init : goal.loop-j-init
loop-j-init c =
    let cu = c.args.cu.now in
    let p = c.args.old.now in
    first_filling c.args.limit c.requires.0 cu.palette _ cu.palette_size _ (omega arith) c.min-size.ensures c.palette_first-entries.ensures (take cu.pred_size cu.reused) (take p.size p.entries)

pub returns-then-limit-size : goal.returns-then-limit-size
returns-then-limit-size c =
    let cu = c.args.cu.now in
    let p = c.args.old.now in
    let l = c.loop-j in
    renewing_full c.args.limit c.requires.0 _ cu.reused cu.pred_size p.entries p.size (omega arith) l.size l.entries l.j c.if-limit-size.true l.invariant
    ∙ first-cut c.args.limit c.requires.0 cu.palette _ cu.palette_size _ (omega arith) c.min-size.ensures c.palette_first-entries.ensures (take cu.pred_size cu.reused) (take p.size p.entries)

pub loop-j-preserved-then-cu-j : goal.loop-j-preserved-then-cu-j
loop-j-preserved-then-cu-j c =
    let cu = c.args.cu.now in
    let p = c.args.old.now in
    let l = c.loop-j in
    renewing_passed c.args.limit c.requires.0 _ cu.reused cu.pred_size p.entries p.size (omega arith) l.size l.entries l.j (omega arith) c.if-cu-j.true l.invariant

pub loop-j-preserved : goal.loop-j-preserved
loop-j-preserved c =
    let cu = c.args.cu.now in
    let p = c.args.old.now in
    let l = c.loop-j in
    let h : l.j < p.size = omega arith in
    rw (get_or-take p.size p.entries l.j no_color h)
    (renewing_kept c.args.limit c.requires.0 _ cu.reused cu.pred_size p.entries p.size (omega arith) l.size l.entries l.j h c.if-cu-j.false c.if-limit-size.false l.invariant)

pub returns : goal.returns
returns c =
    let cu = c.args.cu.now in
    let p = c.args.old.now in
    let l = c.loop-j in
    renewing_end c.args.limit c.requires.0 _ cu.reused cu.pred_size p.entries p.size (omega arith) l.size l.entries l.j (omega arith) l.invariant
    ∙ first-cut c.args.limit c.requires.0 cu.palette _ cu.palette_size _ (omega arith) c.min-size.ensures c.palette_first-entries.ensures (take cu.pred_size cu.reused) (take p.size p.entries)
