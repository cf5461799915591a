-- `choose::rest`: what is laid, and what is behind it. Assumes nothing.
use Rattle.std.proofs.Common.{◌≡◌, ◌-◌, ◌∙◌, arith, rules, length, take, ap, length-take-le}
use Rattle.std.proofs.lemmas.Slice.{take-put_mid, drop-put_mid}
use Rattle.choose.proofs.rest.Goals as goal

pub returns : goal.returns
returns c =
    let s = c.args in
    let e : c.copy_from_slice.new.self ≡ take (s.total - s.p) s.left.now = search (rules, c.copy_from_slice.ensures.after) in
    let n : length c.copy_from_slice.new.self ≡ s.total - s.p = ap length e ∙ length-take-le (s.total - s.p) s.left.now (omega arith) in
    (take-put_mid s.p (s.total - s.p) s.palette.now _ s.total (omega arith) (omega arith) ∙ rw e, drop-put_mid s.p (s.total - s.p) s.palette.now _ s.total (omega arith) (omega arith) n)
