-- `analysis::choose_block`: refused by the count, or made of the palette found.
use Rattle.std.proofs.Common.{arith, refl}
use Rattle.std.proofs.lemmas.Result.{err_from_is_err_and}
use Rattle.refusal.specs.Laws.{number_some}
use Rattle.analysis.specs.Laws.{refused_number, few-reused, block_made}
use Rattle.analysis.proofs.choose_block.Goals as goal

pub returns-in_err-painting : goal.returns-in_err-painting
returns-in_err-painting c = let s = c.args in
    let p = err_from_is_err_and c.from_residual.result c.from_residual.ensures.1 in
    rw (p.1, p.2) (refused_number s.cells.now s.c s.size s.p s.counter.now s.tol _ _ _ _ c.in_err-painting.ensures refl refl refl (λ z. omega (arith, z, number_some c.in_err-painting.field-0.0)))

pub made-requires : goal.made-requires
made-requires c = let s = c.args in
    few-reused s.cells.now s.c s.size s.p s.counter.now s.tol _ _ _ _ c.in_ok-painting.ensures refl refl refl refl

pub returns : goal.returns
returns c = let s = c.args in
    block_made s.cells.now s.c s.size s.p s.counter.now s.tol _ _ _ _ c.in_ok-painting.ensures refl refl refl refl c.made.result c.made.ensures
