-- `recon::paint`: the entry of one cell more.
use Rattle.std.proofs.Common.{◌≡◌, sym, get_or, ℕ, rules}
use Rattle.base.specs.Cells.{laid_none, laid_on_lem}
use Rattle.recon.proofs.paint.Goals as goal

pub loop-i-init : goal.loop-i-init
loop-i-init c = sym (laid_none _ _ _)

pub loop-i-preserved : goal.loop-i-preserved
loop-i-preserved c =
    let l = c.loop-i in
    let s = c.args in
    let e : c.unwrap_or.result ≡ get_or s.palette.now (get_or s.indices.now l.i 0) 0 = search rules in
    laid_on_lem (λ (j : ℕ). get_or s.palette.now (get_or s.indices.now j 0) 0) s.out.now l.out l.i c.unwrap_or.result l.invariant e
