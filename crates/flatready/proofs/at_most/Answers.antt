-- `flatready::at_most`: one number more.
use Rattle.std.proofs.Common.{◌≡◌, ◌+◌, ◌-◌, take, drop, get_or, sym, ◌∙◌, arith, get_or-take}
use Rattle.std.proofs.lemmas.List.{get_or-drop}
use Rattle.base.specs.Tests.{up_to-none, up_to-next, and_pick}
use Rattle.flat.specs.Flat.{number}
use Rattle.flatready.proofs.at_most.Goals as goal

pub loop-x-init : goal.loop-x-init
loop-x-init c = sym (up_to-none _)

pub loop-x-preserved : goal.loop-x-preserved
loop-x-preserved c =
    let l = c.loop-x in
    let s = c.args in
    let e : get_or (take (s.from + s.n - s.from) (drop s.from s.list.now)) l.x-index 0 ≡ number s.list.now (s.from + l.x-index) = grind (arith, get_or-take, get_or-drop) in
    and_pick l.ok _ ∙ rw (e, l.invariant) (sym (up_to-next _ l.x-index))
