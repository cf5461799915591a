-- `smoothmoves::copy_above`: one place more.
use Rattle.std.proofs.Common.{◌≡◌, ◌+◌, ◌-◌, sym, arith}
use Rattle.smooth.specs.Laws.{copied_none, copied_next}
use Rattle.smoothmoves.proofs.copy_above.Goals as goal

pub loop-i-init : goal.loop-i-init
loop-i-init c =
    let s = c.args in
    let z : s.start - s.start ≡ 0 = omega arith in
    rw z (sym (copied_none s.size s.indices.now s.start))

pub loop-i-preserved : goal.loop-i-preserved
loop-i-preserved c =
    let s = c.args in
    let l = c.loop-i in
    let k = l.i - s.start in
    let n : l.i + 1 - s.start ≡ k + 1 = omega arith in
    let h : s.start + k ≡ l.i = omega arith in
    rw (n, copied_next s.size s.indices.now s.start k, h) (rw (c.above-a.ensures, l.invariant))
