-- `flatready::reused`: one flag more, on or off.
use Rattle.std.proofs.Common.{◌≡◌, ◌+◌, ◌-◌, take, drop, get_or, ◌∙◌, arith, get_or-take}
use Rattle.std.proofs.lemmas.List.{get_or-drop}
use Rattle.flat.specs.Flat.{number}
use Rattle.flatready.specs.ReadyLaws.{flag_on, flag_off, flags-end}
use Rattle.flatready.proofs.reused.Goals as goal
use Rattle.flatready.proofs.reused.Goals.{then-flag-eq1, else-flag-eq1}

pub loop-flag-init : goal.loop-flag-init
loop-flag-init c = (omega arith, omega arith)

pub loop-flag-preserved : goal.loop-flag-preserved
loop-flag-preserved c =
    let l = c.loop-flag in
    let b = c.args.list.now in
    let i = l.flag-index in
    let e : get_or (take (208 + c.args.count - 208) (drop 208 b)) i 0 ≡ number b (208 + i) = get_or-take (208 + c.args.count - 208) (drop 208 b) i 0 (omega arith) ∙ get_or-drop 208 b i 0 in
    elim c.if-flag-eq1.branch [
      | then-flag-eq1 w ↦ (omega arith, omega (arith, flag_on b c.args.count i (omega arith) (omega arith) (rw e at w.if-flag-eq1.true)))
      | else-flag-eq1 w ↦ (omega arith, omega (arith, flag_off b c.args.count i (omega arith) (omega arith) (rw e at w.if-flag-eq1.false)))
    ]

pub returns : goal.returns
returns c = (omega (arith, flags-end c.args.list.now c.args.count c.loop-flag.flag-index (omega arith) (omega arith)), omega arith)
