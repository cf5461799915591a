-- `flatchoose::choose_block`: refused by the count, or the block laid.
use Rattle.std.proofs.Common.{◌∙◌, ap, refl, arith}
use Rattle.std.proofs.lemmas.Result.{err_from_is_err_and}
use Rattle.refusal.specs.Laws.{number_some}
use Rattle.blocks.specs.Laws.{block_with}
use Rattle.analysis.specs.Analyze.{Analyzed}
use Rattle.analysis.specs.Laws.{refused_number, few-reused, block_made}
use Rattle.flatchoose.specs.Choose.{block_laid}
use Rattle.flatchoose.specs.ChooseLaws.{block-refused}
use Rattle.flatchoose.proofs.choose_block.Goals as goal

pub returns-in_err-painting : goal.returns-in_err-painting
returns-in_err-painting c = let s = c.args in
    let p = err_from_is_err_and c.from_residual.result c.from_residual.ensures.1 in
    rw (p.1, p.2)
    (block-refused _ c.choose_palette.new.counter s.block.now
    ∙ ap (λ (z : Analyzed). block_laid z s.block.now) (refused_number s.cells.now s.c s.size s.p s.counter.now s.tol _ _ _ _ c.in_err-painting.ensures refl refl refl (λ z. omega (arith, z, number_some c.in_err-painting.field-0.0))))

pub lay_made-requires : goal.lay_made-requires
lay_made-requires c = let s = c.args in
    few-reused s.cells.now s.c s.size s.p s.counter.now s.tol _ _ _ _ c.in_ok-painting.ensures refl refl refl refl

pub returns : goal.returns
returns c = let s = c.args in
    rw c.lay_made.ensures
    (ap (λ (z : Analyzed). block_laid z s.block.now) (block_made s.cells.now s.c s.size s.p s.counter.now s.tol _ _ _ _ c.in_ok-painting.ensures refl refl refl refl (block_with s.c s.size s.p.size s.tol c.in_ok-painting.painting) refl))
