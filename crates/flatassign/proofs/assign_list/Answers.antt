-- `flatassign::assign_list`: refusals 1 to 4, then 7, then the assignment.
use mathlib.Core.Path.{ap, sym, ◌∙◌}
use mathlib.Core.List.{List}
use Prim.Native.Nat.{ℕ, ◌*◌, ◌≤◌, ◌<◌}
use native.Mathlib.Nat.{mul-le-mul}
use native.Mathlib.Omega.{arith}
use borrow.Author.Tests.{leb-true}
use lib.ListN.{replicate, length-replicate}
use lib.Seq.{sets}
use Rattle.base.specs.Cells.{laid_in}
use Rattle.calls.specs.CallLaws.{answered-refused}
use Rattle.model.specs.DomainLaws.{source-bounds}
use Rattle.flat.specs.Flat.{flat_block}
use Rattle.samples.specs.Samples.{color_at, cell_at}
use Rattle.source.specs.Source.{cells_in}
use Rattle.refusal.specs.Refusal.{number_of}
use Rattle.std.proofs.lemmas.Result.{err_from_is_err_and}
use Rattle.source.specs.Laws.{fetched, cells_color}
use Rattle.refusal.specs.Laws.{number_some}
use Rattle.figure.specs.Laws.{in_rows}
use Rattle.assigning.specs.Assigning.{Assigned}
use Rattle.assigning.specs.Laws.{map_of, block_parts, cell-small, map_same, refused-source, refused_block, map-answer}
use Rattle.flatassign.specs.Answers.{assign_laid}
use Rattle.flatassign.proofs.assign_list.Goals as goal

pub fetch_block-requires : goal.fetch_block-requires
fetch_block-requires c = length-replicate {A = ℕ} 1024 0

pub returns-in_err-fetch_block : goal.returns-in_err-fetch_block
returns-in_err-fetch_block c = let p = err_from_is_err_and c.from_residual.result c.from_residual.ensures.1 in
    let s = c.args in
    let r = c.in_err-fetch_block.field-0.0 in
    let o = number_some r in
    rw (p.1, p.2)
    (answered-refused (number_of r) s.list.now (sets s.list.now 0 (flat_block s.cu)) (λ z. omega arith)
    ∙ ap (λ (d : Assigned). assign_laid d s.list.now) (refused-source s.luma.now s.cb.now s.cr.now s.c s.g s.transpose s.cu (number_of r) c.in_err-fetch_block.ensures.0 o))

pub map_list-requires : goal.map_list-requires
map_list-requires c = let s = c.args in
    let f = fetched s.luma.now s.cb.now s.cr.now s.c s.g (sym c.in_ok-fetch_block.ensures.0) in
    let p = block_parts s.c s.g s.cu (sym c.block_in.ensures ∙ c.if-not-block_in.false) in
    let b = source-bounds s.c.chroma_idc s.g f.readable.source in
    let q : s.g.size * s.g.size ≤ 32 * 32 = mul-le-mul b.small b.small in record {
      c_value = (f.readable.config, p.takes.size_high, p.takes.some, leb-true _ _ p.takes.few, c.requires.0, c.requires.1);
      by_index = λ j h.
          let k : j < s.g.size * s.g.size = rw p.size at h in
          rw (c.in_ok-fetch_block.ensures.1, f.cells (replicate 1024 0), laid_in (cell_at s.luma.now s.cb.now s.cr.now s.c.chroma_idc s.g) (replicate 1024 0) 0 (s.g.size * s.g.size) j 0 (omega arith) (omega arith) (omega (arith, length-replicate {A = ℕ} 1024 0)))
          (cell-small s.luma.now s.cb.now s.cr.now s.c s.g f j k);
    }

pub returns : goal.returns
returns c = let s = c.args in
    let e = sym c.in_ok-fetch_block.ensures.0 in
    let i = sym c.block_in.ensures ∙ c.if-not-block_in.false in
    let f = fetched s.luma.now s.cb.now s.cr.now s.c s.g e in
    let p = block_parts s.c s.g s.cu i in
    let b = source-bounds s.c.chroma_idc s.g f.readable.source in
    let q : s.g.size * s.g.size ≤ 32 * 32 = mul-le-mul b.small b.small in
    c.map_list.ensures
    ∙ ap (λ (z : List ℕ). assign_laid (map_of s.c s.transpose s.cu (in_rows s.cu.size z)) s.list.now) c.in_ok-fetch_block.ensures.1
    ∙ ap (λ (d : Assigned). assign_laid d s.list.now)
    (map_same s.transpose s.cu (in_rows s.cu.size (cells_in s.luma.now s.cb.now s.cr.now s.c s.g (replicate 1024 0))) (color_at s.luma.now s.cb.now s.cr.now s.c.chroma_idc s.g)
    (λ x y h k. rw p.size (cells_color s.luma.now s.cb.now s.cr.now s.c s.g (replicate 1024 0) f (omega (arith, length-replicate {A = ℕ} 1024 0)) x y (rw p.size at h) (rw p.size at k))) s.c
    ∙ map-answer s.luma.now s.cb.now s.cr.now s.c s.g s.transpose s.cu e i)

pub returns-then-not-block_in : goal.returns-then-not-block_in
returns-then-not-block_in c = let s = c.args in
    ap (λ (d : Assigned). assign_laid d s.list.now) (refused_block s.luma.now s.cb.now s.cr.now s.c s.g s.transpose s.cu (sym c.in_ok-fetch_block.ensures.0) (sym c.block_in.ensures ∙ c.if-not-block_in.true))
