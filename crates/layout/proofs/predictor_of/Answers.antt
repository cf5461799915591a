-- `layout::predictor_of`.
use Rattle.std.proofs.Common.{ℕ, ◌+◌, ◌*◌, replicate, ◌≡◌, sym, arith}
use Rattle.base.specs.Cells.{laid_none, laid_on_lem}
use Rattle.model.specs.Domain.{no_color}
use Rattle.layout.specs.Layout.{entry_at, array_of}
use Rattle.layout.proofs.predictor_of.Goals as goal

pub loop-i-init : goal.loop-i-init
loop-i-init c = sym (laid_none _ _ _)

pub loop-i-preserved : goal.loop-i-preserved
loop-i-preserved c =
    let l = c.loop-i in
    laid_on_lem (λ (j : ℕ). entry_at c.args.file.now (36 + 6 * j)) (replicate 128 no_color) l.entry-items l.i _ l.invariant c.entry_at.ensures

pub returns : goal.returns
unfolding array_of
returns c =
    let e : c.loop-i.i ≡ 128 = omega arith in
    rw (c.loop-i.invariant, e, c.word_at-size.ensures.0)
