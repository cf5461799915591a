-- `flatupdate::finish`: the part of the list after the entries, written whole.
use Rattle.std.proofs.Common.{◌≡◌, ◌+◌, ◌*◌, ◌-◌, set, take, drop, replicate, length, arith, length-set, length-drop, length-take-le}
use Rattle.std.proofs.lemmas.List.{length-replicate}
use Rattle.flatupdate.proofs.Part.{part_sets}
use Rattle.flatupdate.proofs.finish.Goals as goal

pub returns : goal.returns
returns c =
    let s = c.args in
    let l = set s.list.now 0 s.size in
    let a = 1 + 3 * s.size in
    let w : 385 - a ≡ 384 - 3 * s.size = omega arith in
    let m : length (take (385 - a) (drop a l)) ≡ 385 - a = length-take-le (385 - a) (drop a l) (omega (arith, length-drop a l, length-set s.list.now 0 s.size)) in
    let e = c.fill.ensures.after (λ y z. z) in
    rw (w, rw (m, w) at e) (part_sets l (replicate (384 - 3 * s.size) 0) a (384 - 3 * s.size) (omega (arith, length-set s.list.now 0 s.size)) (length-replicate (384 - 3 * s.size) 0))
