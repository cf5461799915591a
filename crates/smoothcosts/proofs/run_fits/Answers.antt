-- `smoothcosts::run_fits`: one sample more.
use Rattle.std.proofs.Common.{◌≡◌, ℕ, ◌+◌, ◌-◌, get_or, take, drop, sym, ◌∙◌, arith, get_or-take}
use borrow.Author.Tests.{le-leb, lt-leb}
use Rattle.std.proofs.lemmas.List.{get_or-drop}
use Rattle.base.specs.Tests.{up_to-none, up_to-next, up_to_fails}
use Rattle.smooth.specs.Smooth.{fits}
use Rattle.smoothcosts.proofs.run_fits.Goals as goal

pub loop-cell-init : goal.loop-cell-init
loop-cell-init c = up_to-none _

pub returns-then-s-distance : goal.returns-then-s-distance
unfolding fits
returns-then-s-distance c =
    let s = c.args.s.now in
    let i = c.loop-cell.cell-index in
    let e : get_or (take (c.args.start + c.args.len - c.args.start) (drop c.args.start s.cells.now)) i 0 ≡ get_or s.cells.now (c.args.start + i) 0 = grind (arith, get_or-take, get_or-drop) in
    sym (up_to_fails (λ (j : ℕ). fits s.cells.now s.tolerance c.args.entry (c.args.start + j)) c.args.len i (omega arith) (rw (c.distance.ensures, e) at (lt-leb _ _ c.if-s-distance.true)))

pub loop-cell-preserved : goal.loop-cell-preserved
unfolding fits
loop-cell-preserved c =
    let s = c.args.s.now in
    let i = c.loop-cell.cell-index in
    let e : get_or (take (c.args.start + c.args.len - c.args.start) (drop c.args.start s.cells.now)) i 0 ≡ get_or s.cells.now (c.args.start + i) 0 = grind (arith, get_or-take, get_or-drop) in
    up_to-next (λ (j : ℕ). fits s.cells.now s.tolerance c.args.entry (c.args.start + j)) i ∙ rw c.loop-cell.invariant (rw (c.distance.ensures, e) at (le-leb _ _ c.if-s-distance.false))
