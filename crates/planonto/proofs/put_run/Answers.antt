use Rattle.std.proofs.Common.{◌≡◌, refl, suc, ◌+◌, Bool, true, false, arith, length-set}
use mir.Val.{bool_byte}
use Rattle.h265.specs.Strings.{bit}
use Rattle.planonto.proofs.put_run.Goals as goal

pub bounds-list-at-2 : goal.bounds-list-at-2
bounds-list-at-2 c = simp length-set (omega (arith, c.requires))

pub bounds-list-at-3 : goal.bounds-list-at-3
bounds-list-at-3 c = simp length-set (omega (arith, c.requires))

pub bounds-list-at-4 : goal.bounds-list-at-4
bounds-list-at-4 c = simp length-set (omega (arith, c.requires))

bit_is : (b : Bool) → bool_byte b ≡ bit b
bit_is true = refl
bit_is false = refl

pub returns : goal.returns
returns c =
    let a : c.args.at + 1 ≡ suc c.args.at = omega arith in
    let b : c.args.at + 2 ≡ suc (suc c.args.at) = omega arith in
    let d : c.args.at + 3 ≡ suc (suc (suc c.args.at)) = omega arith in
    rw (c.from.ensures, bit_is, a, b, d)
