-- `recon::reconstruct`: refusals 1 to 3, then 7, then the block on its planes.
use Rattle.std.proofs.Common.{length, sym, ◌∙◌}
use Rattle.std.proofs.lemmas.Result.{err_from_is_err_and}
use Rattle.refusal.specs.Refusal.{number_of}
use Rattle.refusal.specs.Laws.{number_some}
use Rattle.targets.specs.Laws.{ready}
use Rattle.recon.specs.Laws.{refused_target, refused_block, laid-answer}
use Rattle.recon.proofs.reconstruct.Goals as goal

pub returns-in_err-check_targets : goal.returns-in_err-check_targets
returns-in_err-check_targets c =
    let p = err_from_is_err_and c.from_residual.result c.from_residual.ensures.1 in
    let s = c.args in
    let r = c.in_err-check_targets.field-0.0 in
    rw (p.1, p.2) (refused_target s.luma.now s.cb.now s.cr.now s.ys s.cs s.c s.g s.cu (number_of r) c.in_err-check_targets.ensures (number_some r))

pub returns-then-not-block_in : goal.returns-then-not-block_in
returns-then-not-block_in c =
    let s = c.args in
    refused_block s.luma.now s.cb.now s.cr.now s.ys s.cs s.c s.g s.cu (sym c.in_ok-check_targets.ensures) (sym c.block_in.ensures ∙ c.if-not-block_in.true)

pub put_block-requires : goal.put_block-requires
put_block-requires c =
    let s = c.args in
    (ready s.c s.g s.ys s.cs (length s.luma.now) (length s.cb.now) (length s.cr.now) (sym c.in_ok-check_targets.ensures), sym c.block_in.ensures ∙ c.if-not-block_in.false)

pub returns : goal.returns
returns c =
    let s = c.args in
    let e = c.put_block.ensures in
    laid-answer s.luma.now s.cb.now s.cr.now s.ys s.cs s.c s.g s.cu _ _ _ (sym c.in_ok-check_targets.ensures) (sym c.block_in.ensures ∙ c.if-not-block_in.false) e.0 e.1 e.2
