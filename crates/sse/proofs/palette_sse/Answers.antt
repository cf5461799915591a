-- `sse::palette_sse`: refusals 1 to 4, then 7, then the figure.
use Rattle.std.proofs.Common.{ℕ, ◌*◌, ◌≤◌, replicate, sym, ◌∙◌, arith}
use Rattle.std.proofs.Math.Nat.{mul-le-mul}
use Rattle.std.proofs.lemmas.List.{length-replicate}
use Rattle.std.proofs.lemmas.Result.{err_from_is_err_and}
use Rattle.refusal.specs.Refusal.{number_of}
use Rattle.model.specs.DomainLaws.{source-bounds}
use Rattle.source.specs.Laws.{fetched}
use Rattle.refusal.specs.Laws.{number_some}
use Rattle.sse.specs.Laws.{same_size, refused-source, refused_block, figure_answer}
use Rattle.sse.proofs.palette_sse.Goals as goal

pub returns-in_err-fetch_block : goal.returns-in_err-fetch_block
returns-in_err-fetch_block c = let p = err_from_is_err_and c.from_residual.result c.from_residual.ensures.1 in
    let s = c.args in
    let r = c.in_err-fetch_block.field-0.0 in
    rw (p.1, p.2) (refused-source s.luma.now s.cb.now s.cr.now s.c s.g s.cu (number_of r) c.in_err-fetch_block.ensures.0 (number_some r))

pub block_figure-requires : goal.block_figure-requires
block_figure-requires c = let s = c.args in
    let f = fetched s.luma.now s.cb.now s.cr.now s.c s.g (sym c.in_ok-fetch_block.ensures.0) in
    let z = same_size s.c s.g s.cu (sym c.block_in.ensures ∙ c.if-not-block_in.false) in
    let b = source-bounds s.c.chroma_idc s.g f.readable.source in
    (f.readable.config, omega (arith, b.small))

pub returns : goal.returns
returns c = let s = c.args in
    let e = sym c.in_ok-fetch_block.ensures.0 in
    let f = fetched s.luma.now s.cb.now s.cr.now s.c s.g e in
    let b = source-bounds s.c.chroma_idc s.g f.readable.source in
    let q : s.g.size * s.g.size ≤ 32 * 32 = mul-le-mul b.small b.small in
    figure_answer s.luma.now s.cb.now s.cr.now s.c s.g s.cu (replicate 1024 0) c.block_figure.result e (sym c.block_in.ensures ∙ c.if-not-block_in.false) (omega (arith, length-replicate {A = ℕ} 1024 0)) (c.block_figure.ensures ∙ rw c.in_ok-fetch_block.ensures.1)

pub returns-then-not-block_in : goal.returns-then-not-block_in
returns-then-not-block_in c = let s = c.args in
    refused_block s.luma.now s.cb.now s.cr.now s.c s.g s.cu (sym c.in_ok-fetch_block.ensures.0) (sym c.block_in.ensures ∙ c.if-not-block_in.true)
