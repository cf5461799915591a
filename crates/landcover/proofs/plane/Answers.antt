-- `landcover::plane`.
use Rattle.std.proofs.Common.{ℕ, replicate, sym, ◌∙◌, arith}
use Rattle.base.specs.Cells.{laid_none, laid_on_lem, laid_done}
use Rattle.landcover.specs.Map.{cover_at, sample_of, plane_of}
use Rattle.landcover.proofs.plane.Goals as goal

pub loop-i-init : goal.loop-i-init
loop-i-init c = sym (laid_none _ _ _)

pub loop-i-preserved : goal.loop-i-preserved
loop-i-preserved c =
    let l = c.loop-i in
    laid_on_lem (λ (j : ℕ). sample_of (cover_at c.args.half j) c.args.by c.args.deep) (replicate 1920 0) l.v-items l.i _ l.invariant (c.sample.ensures ∙ rw c.cover_at.ensures.0)

pub returns : goal.returns
unfolding plane_of
returns c = laid_done _ _ _ _ _ _ c.loop-i.invariant (omega arith)
