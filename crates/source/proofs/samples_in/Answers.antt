-- `source::samples_in`: greatest samples of 12 bits at most.
use Rattle.std.proofs.Common.{◌≡◌, ◌*◌, ◌≤◌, ◌∙◌, min, length, take, arith}
use Rattle.std.proofs.Math.Nat.{mul-le-mul}
use Rattle.model.specs.Domain.{most}
use Rattle.model.specs.ConfigLaws.{depth-most}
use Rattle.domain.specs.Taken.{all_taken}
use Rattle.source.specs.Source.{fits, all_fit}
use Rattle.source.proofs.samples_in.Goals as goal

pub returns : goal.returns
unfolding all_fit
returns c = let s = c.args in
    let n = s.size * s.size in
    let q : n ≤ 32 * 32 = mul-le-mul c.requires.0 c.requires.0 in
    let y : min 65535 (most s.luma) ≡ most s.luma = omega (arith, depth-most s.luma c.requires.1) in
    let u : min 65535 (most s.chroma) ≡ most s.chroma = omega (arith, depth-most s.chroma c.requires.2) in
    let h : n ≤ length s.cells.now = omega arith in
    let e = all_taken (fits (most s.luma) (most s.chroma)) 0 s.cells.now n (length (take n s.cells.now)) h (omega arith) (omega arith) in
    c.all_fit.ensures ∙ rw (c.from-ym.ensures, c.from-cm.ensures, c.most_in.ensures, c.most_in-2.ensures, y, u) e
