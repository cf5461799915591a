-- `smoothing::smooth_indices`: refusals 1 to 4, then 7, then 15, then the smoothing.
use Rattle.std.proofs.Common.{ℕ, ◌*◌, ◌≤◌, replicate, sym, ◌∙◌, arith}
use Rattle.std.specs.Float.{binary32}
use Rattle.std.specs.Float.Ieee.{mul}
use Rattle.std.proofs.Math.Nat.{mul-le-mul}
use Rattle.std.proofs.lemmas.List.{length-replicate}
use Rattle.std.proofs.lemmas.Result.{err_from_is_err_and}
use Rattle.refusal.specs.Refusal.{number_of}
use Rattle.model.specs.DomainLaws.{source-bounds}
use Rattle.samples.specs.Samples.{color_at}
use Rattle.source.specs.Source.{cells_in}
use Rattle.source.specs.Laws.{fetched, cells_color}
use Rattle.refusal.specs.Laws.{number_some}
use Rattle.figure.specs.Laws.{in_rows}
use Rattle.sse.specs.Laws.{same_size}
use Rattle.smoothblock.specs.Laws.{answer-same}
use Rattle.smoothing.specs.Laws.{block_whole, refused-source, refused_block, refused_kind, smooth_answer}
use Rattle.smoothing.proofs.smooth_indices.Goals as goal

pub fetch_block-requires : goal.fetch_block-requires
fetch_block-requires c = length-replicate {A = ℕ} 1024 0

pub returns-in_err-fetch_block : goal.returns-in_err-fetch_block
returns-in_err-fetch_block c =
    let p = err_from_is_err_and c.from_residual.result c.from_residual.ensures.1 in
    let s = c.args in
    let r = c.in_err-fetch_block.field-0.0 in
    rw (p.1, p.2) (refused-source s.luma.now s.cb.now s.cr.now s.c s.g s.lambda s.bits_per_run s.cu (number_of r) c.in_err-fetch_block.ensures.0 (number_some r))

pub returns-then-not-block_in : goal.returns-then-not-block_in
returns-then-not-block_in c =
    let s = c.args in
    refused_block s.luma.now s.cb.now s.cr.now s.c s.g s.lambda s.bits_per_run s.cu (sym c.in_ok-fetch_block.ensures.0) (sym c.block_in.ensures ∙ c.if-not-block_in.true)

pub returns-then-not-kind_in : goal.returns-then-not-kind_in
returns-then-not-kind_in c =
    let s = c.args in
    refused_kind s.luma.now s.cb.now s.cr.now s.c s.g s.lambda s.bits_per_run s.cu (sym c.in_ok-fetch_block.ensures.0) (sym c.block_in.ensures ∙ c.if-not-block_in.false) (sym c.kind_in.ensures ∙ c.if-not-kind_in.true)

pub smooth_block-requires : goal.smooth_block-requires
smooth_block-requires c =
    let s = c.args in
    let f = fetched s.luma.now s.cb.now s.cr.now s.c s.g (sym c.in_ok-fetch_block.ensures.0) in
    let w = block_whole s.c s.g s.cu (sym c.block_in.ensures ∙ c.if-not-block_in.false) in
    (f.readable.config, w.least, w.small, w.entries)

pub returns : goal.returns
returns c =
    let s = c.args in
    let e = sym c.in_ok-fetch_block.ensures.0 in
    let i = sym c.block_in.ensures ∙ c.if-not-block_in.false in
    let f = fetched s.luma.now s.cb.now s.cr.now s.c s.g e in
    let z = same_size s.c s.g s.cu i in
    let b = source-bounds s.c.chroma_idc s.g f.readable.source in
    let q : s.g.size * s.g.size ≤ 32 * 32 = mul-le-mul b.small b.small in
    c.smooth_block.ensures
    ∙ rw c.in_ok-fetch_block.ensures.1
    (answer-same s.cu (in_rows s.cu.size (cells_in s.luma.now s.cb.now s.cr.now s.c s.g (replicate 1024 0))) (color_at s.luma.now s.cb.now s.cr.now s.c.chroma_idc s.g)
    (λ x y h k. rw z (cells_color s.luma.now s.cb.now s.cr.now s.c s.g (replicate 1024 0) f (omega (arith, length-replicate {A = ℕ} 1024 0)) x y (rw z at h) (rw z at k))) s.c (mul binary32 s.lambda s.bits_per_run))
    ∙ smooth_answer s.luma.now s.cb.now s.cr.now s.c s.g s.lambda s.bits_per_run s.cu e i (sym c.kind_in.ensures ∙ c.if-not-kind_in.false)
