-- `flatrecon::reconstruct_list`: refusals 1 to 3, then 7, then the block on its planes.
use Rattle.std.proofs.Common.{length, sym, ◌∙◌}
use Rattle.std.proofs.lemmas.Result.{err_from_is_err_and}
use Rattle.refusal.specs.Refusal.{number_of}
use Rattle.refusal.specs.Laws.{number_some}
use Rattle.flat.specs.Flat.{block_of}
use Rattle.targets.specs.Laws.{ready}
use Rattle.recon.specs.Laws.{refused_target, refused_block, laid-answer}
use Rattle.flatrecon.specs.Cells.{in_call}
use Rattle.flatrecon.proofs.reconstruct_list.Goals as goal

pub returns-in_err-check_targets : goal.returns-in_err-check_targets
returns-in_err-check_targets c =
    let p = err_from_is_err_and c.from_residual.result c.from_residual.ensures.1 in
    let s = c.args in
    let r = c.in_err-check_targets.field-0.0 in
    rw (p.1, p.2) (refused_target s.luma.now s.cb.now s.cr.now s.ys s.cs s.c s.g (block_of s.block.now) (number_of r) c.in_err-check_targets.ensures (number_some r))

pub returns-then-not-matches_call : goal.returns-then-not-matches_call
returns-then-not-matches_call c =
    let s = c.args in
    refused_block s.luma.now s.cb.now s.cr.now s.ys s.cs s.c s.g (block_of s.block.now) (sym c.in_ok-check_targets.ensures) (sym (in_call s.block.now c.requires s.c s.g _ c.matches_call.ensures) ∙ c.if-not-matches_call.true)

pub put_block-requires : goal.put_block-requires
put_block-requires c =
    let s = c.args in
    (ready s.c s.g s.ys s.cs (length s.luma.now) (length s.cb.now) (length s.cr.now) (sym c.in_ok-check_targets.ensures), c.requires, sym (in_call s.block.now c.requires s.c s.g _ c.matches_call.ensures) ∙ c.if-not-matches_call.false)

pub returns : goal.returns
returns c =
    let s = c.args in
    let e = c.put_block.ensures in
    laid-answer s.luma.now s.cb.now s.cr.now s.ys s.cs s.c s.g (block_of s.block.now) _ _ _ (sym c.in_ok-check_targets.ensures) (sym (in_call s.block.now c.requires s.c s.g _ c.matches_call.ensures) ∙ c.if-not-matches_call.false) e.0 e.1 e.2
